-- Words laid before others in a list: none, that of one gate, and a run before another. Where a cascade's end the list, their bytes are the cascade
-- (`cascade_laid`). Assumes nothing.
use Rattle.std.proofs.Common.{◌≡◌, ℕ, ◌+◌, ◌*◌, ◌≤◌, ◌<◌, List, [], ◌∷◌, ◌++◌, map, length, get_or, take, drop, refl, sym, ap, ◌∙◌, arith, zero-add, add-zero}
use Rattle.std.proofs.Common.{length-append, append_assoc, append-nil, length-take-le}
use Rattle.std.proofs.Math.Seq.{sets, drop-length}
use Rattle.std.proofs.lemmas.List.{length-map, take_more, flat_map_more, map-append}
use Rattle.std.specs.List.{flat_map}
use Rattle.ranges.proofs.Stores.{sets_append}
use Rattle.card.specs.Card.{laid}
use Rattle.card.proofs.Cards.{sets_laid}
use Rattle.gates.specs.declared.Gate.{Gate}
use Rattle.gates.specs.Records.{record_of}
use Rattle.gates.specs.Inner.Words.{bytes_in}
use Rattle.cascades.specs.Cascades.{bytes_of}
use Rattle.cascades.proofs.Stored.{length_bytes}
use Rattle.synthesis.specs.Inner.TableSteps.{WordsLaid}

-- ---- runs

pub laid_none : (e : ℕ) (ws : List ℕ) → WordsLaid [] e e ws ws
laid_none e ws = record { count = add-zero e; size = refl; words = refl }

pub word_before : (g : Gate) (w e e' : ℕ) (ws ws' : List ℕ) → bytes_in w ≡ record_of g → e + 1 ≡ e' → length ws' ≡ length ws → drop e ws' ≡ w ∷ drop e' ws
    → WordsLaid (g ∷ []) e e' ws ws'
word_before g w e e' ws ws' is next same laid =
    record { count = next; size = same; words = ap (map bytes_in) laid ∙ ap (λ (x : List ℕ). x ∷ map bytes_in (drop e' ws)) is }

-- a run before another
pub laid_more : (gs hs : List Gate) (e e' c : ℕ) (ws ws' ws'' : List ℕ) → WordsLaid gs e c ws ws' → WordsLaid hs e' e ws' ws''
    → WordsLaid (hs ++ gs) e' c ws ws''
laid_more gs hs e e' c ws ws' ws'' w u =
    record {
      count = omega (arith, w.count, u.count, length-append hs gs);
      size = u.size ∙ w.size;
      words =
          u.words ∙ ap (λ (x : List (List ℕ)). map record_of hs ++ x) w.words
          ∙ sym (append_assoc (map record_of hs) (map record_of gs) (map bytes_in (drop c ws)))
          ∙ ap (λ (x : List (List ℕ)). x ++ map bytes_in (drop c ws)) (sym (map-append record_of hs gs));
    }

-- as many as the gates
pub laid_length : (gs : List Gate) (e e' : ℕ) (ws ws' : List ℕ) → WordsLaid gs e e' ws ws' → length (drop e ws') ≡ length gs + length (drop e' ws)
laid_length gs e e' ws ws' w =
    sym (length-map (drop e ws') bytes_in) ∙ ap length w.words ∙ length-append (map record_of gs) (map bytes_in (drop e' ws))
    ∙ omega (arith, length-map gs record_of, length-map (drop e' ws) bytes_in)

-- ---- the bytes

flat_bytes : (ws : List ℕ) (gs : List Gate) → map bytes_in ws ≡ map record_of gs → flat_map bytes_in ws ≡ bytes_of gs
unfolding bytes_of
flat_bytes [] [] e = refl
flat_bytes [] (g ∷ gs) e = absurd cc
flat_bytes (w ∷ ws) [] e = absurd cc
flat_bytes (w ∷ ws) (g ∷ gs) e =
    let first : bytes_in w ≡ record_of g = cc in
    let rest : map bytes_in ws ≡ map record_of gs = cc in
    rw (first, flat_bytes ws gs rest) refl

-- the words of a cascade at a list's end, stored from the start of a room on, are the cascade
pub cascade_laid : (gs : List Gate) (e : ℕ) (ws ws' room : List ℕ) → WordsLaid gs e (length ws) ws ws' → 8 * length gs ≤ length room
    → sets room 0 (flat_map bytes_in (drop e ws')) ≡ laid (bytes_of gs) room
cascade_laid gs e ws ws' room w fits =
    let all : map bytes_in (drop e ws') ≡ map record_of gs =
    w.words ∙ ap (λ (x : List ℕ). map record_of gs ++ map bytes_in x) (drop-length ws) ∙ append-nil (map record_of gs) in
    rw (flat_bytes (drop e ws') gs all) (sets_laid (bytes_of gs) room (rw (length_bytes gs) fits))

-- ---- the loop that stores them: one word more

long : (ws : List ℕ) → length (flat_map bytes_in ws) ≡ 8 * length ws
unfolding bytes_in
long [] = refl
long (w ∷ ws) = omega (arith, long ws)

pub stored_more : (ws room : List ℕ) (j : ℕ) → j < length ws
    → sets (sets room 0 (flat_map bytes_in (take j ws))) (8 * j) (bytes_in (get_or ws j 0)) ≡ sets room 0 (flat_map bytes_in (take (j + 1) ws))
stored_more ws room j lt =
    let x = get_or ws j 0 in
    let before = flat_map bytes_in (take j ws) in
    let n : length before ≡ 8 * j = omega (arith, long (take j ws), length-take-le j ws (omega arith)) in
    rw (take_more ws j 0 lt, ← flat_map_more bytes_in [] (take j ws) x, sets_append before (bytes_in x) room 0, n, zero-add (8 * j)) refl
