-- FNV-1a with 32 bits.
use Rattle.std.specs.Prelude.{ℕ, ◌-◌, ◌*◌, ◌%◌, ◌^◌, List, false, [], fold, bit_xor}
use Rattle.std.specs.Fmt.{digits, format_spec, padded_integral}
use Rattle.fingerprints.specs.declared.Fnv.{Fnv}

-- the digest of nothing
abbrev pub fnv_new : Fnv
fnv_new = record { 0 = 0x811c_9dc5 }

-- a byte further: joined by exclusive or, and multiplied by FNV's prime modulo 2^32
abbrev pub fnv_step : ℕ → ℕ → ℕ
fnv_step digest byte = (bit_xor digest byte * 0x100_0193) % 2 ^ 32

-- so many bytes further
abbrev pub fnv_write : Fnv → List ℕ → Fnv
fnv_write digest bytes = record { 0 = fold fnv_step digest.0 bytes }

-- eight digits in base 16, as `{:08x}` writes them
abbrev pub fnv_text : ℕ → List ℕ
fnv_text digest = padded_integral (format_spec 32 0 4 8 (2 ^ 64 - 1)) false [] (digits 16 false digest)
