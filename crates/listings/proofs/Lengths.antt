-- How long a listing is: its head line piece by piece, and at most 31 bytes for each line. `listing_most` bounds the listing of any cascade.
-- Assumes nothing.
use Rattle.std.proofs.Common.{◌≡◌, refl, List, [], ◌∷◌, ◌++◌, append_assoc, ℕ, ◌+◌, ◌*◌, ◌≤◌, arith, leb, length, length-append, leb-true}
use Rattle.ranges.specs.Ranges.{every}
use Rattle.ranges.proofs.Tests.{every_below}
use Rattle.gates.specs.declared.Gate.{Gate}
use Rattle.cascades.specs.Cascades.{Cascade}
use Rattle.pricing.specs.Prices.{cascade_price}
use Rattle.pricing.proofs.Costs.{cost_fits}
use Rattle.texts.specs.Texts.{ascii, width, decimal}
use Rattle.texts.specs.GateTexts.{gate_texts}
use Rattle.texts.proofs.Decimals.{length_decimal, width_le}
use Rattle.texts.proofs.GateLengths.{gates_most}
use Rattle.listings.specs.Listings.{operator_name, head_text, listing_with, listing_text}

pub head_parts : (n m cost : ℕ) → head_text n m cost ≡ (ascii "lines " ++ decimal n) ++ ((ascii " gates " ++ decimal m) ++ ((ascii " cost " ++ decimal cost) ++ (10 ∷ [])))
unfolding head_text
head_parts n m cost = simp append_assoc

pub length_listing : (n cost : ℕ) (gs : List Gate) → length (listing_with n cost gs) ≡ 20 + width n + width (length gs) + width cost + length (gate_texts operator_name gs)
unfolding listing_with
length_listing n cost gs = rw (length-append, head_parts) (simp (length-append, length_decimal) (omega arith))

names_short : (o : ℕ) → o ≤ 5 → length (operator_name o) ≤ 2
unfolding every operator_name
names_short o le = leb-true _ 2 (every_below (λ o. leb (length (operator_name o)) 2) 6 refl o (omega arith))

module _ (n : ℕ) (gs : List Gate) (six : n ≤ 6) (c : Cascade n gs) where
  pub gate_texts_most : length (gate_texts operator_name gs) ≤ 31 * length gs
  gate_texts_most = gates_most operator_name names_short n six gs c.gates

  -- 31 bytes for each gate and for the head
  pub listing_lines : length (listing_text n gs) ≤ 31 * length gs + 31
  unfolding listing_text
  listing_lines =
      omega (arith, length_listing n (cascade_price 2 7 gs) gs, gate_texts_most, width_le n 1 (omega arith) (omega arith), width_le (length gs) 4 (omega arith) (omega (arith, c.most)), width_le (cascade_price 2 7 gs) 6 (omega arith) (omega (arith, cost_fits n 2 7 gs six c)))

  -- so the listing of any cascade has at most 248,031 bytes
  pub listing_most : length (listing_text n gs) ≤ 248031
  listing_most = omega (arith, listing_lines, c.most)
