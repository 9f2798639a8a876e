-- A text that is stored piece by piece: two pieces, one behind the other, are their text, and where that fits each of them does. Assumes nothing.
use Rattle.std.proofs.Common.{◌≡◌, refl, sym, ap, ◌∙◌, List, [], ◌∷◌, ◌++◌, ℕ, ◌+◌, ◌≤◌, arith, length, set, length-append}
use Rattle.std.proofs.lemmas.List.Edits.{sets, sets-eq}
use Rattle.std.proofs.Math.Seq.{length-sets, take-length}
use borrow.Rule.Slice.PartMut.{put_mid}
use Rattle.std.proofs.lemmas.Slice.{put_mid-paste}
use Rattle.ranges.proofs.Stores.{sets_append}
use Rattle.texts.specs.declared.storing.Writer.{Writer}
use Rattle.texts.specs.Inner.StoredTexts.{HasRoom, Stored, Wrote}

-- a part of a room that now holds a text
pub stored_part : (room : List ℕ) (at k : ℕ) (text : List ℕ) → k ≡ length text → at + length text ≤ length room → put_mid at k room text ≡ sets room at text
stored_part room at k text e fits =
    put_mid-paste at k room text text (length text) refl (sym e) refl ∙ rw take-length (sym (sets-eq text room at fits))

pub stored_byte : (room : List ℕ) (at v : ℕ) → Stored room at (v ∷ []) (set room at v) (at + 1)
stored_byte room at v = record { bytes = refl; behind = refl }

pub wrote_none : (out : Writer) → Wrote out [] out
wrote_none out = record { same = refl; stored = record { bytes = refl; behind = omega arith } }

module _ {out : Writer} {piece : List ℕ} {mid : Writer} (w : Wrote out piece mid) where
  pub wrote_long : length mid.room.now ≡ length out.room.now
  wrote_long = ap length w.stored.bytes ∙ length-sets out.room.now out.at piece

  pub wrote_both : {next : List ℕ} {after : Writer} → Wrote mid next after → Wrote out (piece ++ next) after
  wrote_both {next} {after} v =
      record {
        same = v.same ∙ w.same;
        stored =
            record {
              bytes = v.stored.bytes ∙ rw (w.stored.bytes, w.stored.behind) (sym (sets_append piece next out.room.now out.at));
              behind = omega (arith, w.stored.behind, v.stored.behind, length-append piece next);
            };
      }

  pub fits_next : (next : List ℕ) → HasRoom out (piece ++ next) → HasRoom mid next
  fits_next next fits = omega (arith, w.stored.behind, wrote_long, length-append piece next)

pub fits_first : (out : Writer) (piece next : List ℕ) → HasRoom out (piece ++ next) → HasRoom out piece
fits_first out piece next fits = omega (arith, length-append piece next)
