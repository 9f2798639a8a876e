-- `files::frame::number_at` meets its contract: of four bytes the first k are those of the file. Assumes nothing.
use Rattle.std.proofs.Common.{◌≡◌, ◌++◌, ◌+◌, ◌∙◌, drop, replicate, slice_range, arith}
use Rattle.std.specs.Int.{w32, from_le_bytes}
use Rattle.files.proofs.NumberBytes.{number_read, number_lt}
use Rattle.files.proofs.frame.number_at.Goals as goal

pub returns : goal.returns
returns c =
    let k = c.args.k in
    let f = c.args.file.now in
    let at = c.args.at in
    let four : c.from_le_bytes.result ≡ from_le_bytes w32 (slice_range f at (at + k) ++ drop k (replicate 4 0)) = rw c.copy_from_slice.ensures.after at c.from_le_bytes.ensures in
    let read = four ∙ number_read k f at c.requires.0 c.requires.1 in
    (read, rw read (number_lt k f at (λ i. omega (arith, c.type_inv.file i))))
