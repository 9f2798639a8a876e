-- The loop of steps over the buffer: after k steps it holds what k steps of the definition leave, and where no pair is left that is the tidied list.
-- Assumes nothing.
use Rattle.std.proofs.Common.{◌≡◌, sym, ap, ◌∙◌, subst, ⊎_elim, true, false, List, [], ◌∷◌, ◌++◌, ℕ, ◌+◌, ◌-◌, ◌*◌, ◌<◌, ◌≤◌, arith, length, take, replicate, lt-ltb, le-ltb}
use Rattle.ranges.specs.Lists.{Each, total}
use Rattle.ranges.proofs.Counts.{here_or_later}
use Rattle.ranges.proofs.Lists.{each_imp}
use Rattle.gates.specs.declared.Gate.{Gate}
use Rattle.gates.specs.Gates.{IsGate}
use Rattle.cascades.specs.Cascades.{records, gates_of, bytes_of}
use Rattle.cascades.proofs.Cascades.{gates_count}
use Rattle.rules.specs.Tidying.{first_j, first_i, ruled, untidy, step, Outcome, gates_and_controls, tidied, after_steps}
use Rattle.rules.proofs.Weights.{control_count_le}
use Rattle.rules.proofs.TidySteps.{stepped_gates_and_controls, step_stepped}
use Rattle.rules.proofs.Endings.{after_none, after_one_more, one_answer, tidied_procedure}
use Rattle.remembering.specs.Inner.Buffers.{gates_in, is_gap, ungapped, rank, BufferHolds}
use Rattle.remembering.specs.Inner.LentBuffers.{held}
use Rattle.remembering.specs.declared.buffer.Buffer.{Buffer}
use Rattle.remembering.specs.declared.memory.Memory.{Memory}
use Rattle.remembering.specs.Inner.Memories.{MemoryFresh}
use Rattle.remembering.proofs.Gaps.{ungapped_all, gate_real}
use Rattle.remembering.proofs.Buffers.{holds_list, holds_bytes}
use Rattle.tidying.specs.declared.pairs.Pair.{Pair}
use Rattle.tidying.specs.Inner.PairSearches.{GateRecords, Remembers, TidyHeld, TidiedIn, PairAt}
use Rattle.tidying.proofs.Firsts.{First, first_at, first_none}

-- a list of m gates has at most 7 m gates and controls
pub size_le : (gs : List Gate) → gates_and_controls gs ≤ 7 * length gs
unfolding gates_and_controls total
size_le [] = omega arith
size_le (g ∷ gs) = omega (arith, size_le gs, control_count_le g)

-- ---- what the search answers

pub pair_none : (gs : List Gate) → first_i gs ≡ length gs → untidy gs ≡ false
unfolding untidy
pair_none gs e = le-ltb (first_i gs) (length gs) (omega arith)

module _ (gs : List Gate) (i j : ℕ) (f : First gs i j) where
  pub pair_some : untidy gs ≡ true
  unfolding untidy
  pair_some = lt-ltb (first_i gs) (length gs) (omega (arith, f.row, f.inside))

  pub pair_step : ruled gs i j ≡ step gs
  unfolding step
  pair_step = ap (ruled gs i) f.column ∙ ap (λ (x : ℕ). ruled gs x (first_j gs x)) f.row

-- ---- the loop

-- after k steps on the gates gs the buffer holds them with gaps, and what is remembered is true
pub record Stepping {R S : ℕ} (gs : List Gate) (b : Buffer) (memory : Memory R S) (x k : ℕ) : Type 0 where
  pub remembers : Remembers b memory x
  pub list : ungapped (held b) ≡ after_steps k gs
  pub used : (q : ℕ) → q < k → untidy (after_steps q gs) ≡ true
  pub spent : k + gates_and_controls (after_steps k gs) ≤ gates_and_controls gs

pub stepping_start : {R S : ℕ} (b : Buffer) (memory : Memory R S) → GateRecords b.bytes.now b.count → MemoryFresh memory b.count
    → Stepping (gates_of b.bytes.now) b memory 0 0
stepping_start b memory ok start =
    let gs = gates_of b.bytes.now in
    let count : length gs ≡ b.count = gates_count b.bytes.now ∙ omega (arith, ok.size) in
    let same : held b ≡ gs = holds_list b.bytes.now gs b.count ok.holds count in
    let real : Each (λ g. is_gap g ≡ false) gs = each_imp (IsGate 6) (λ g. is_gap g ≡ false) gate_real gs ok.gates in
    record {
      remembers = rw same (start gs count real);
      list = ap ungapped same ∙ ungapped_all gs real ∙ sym (after_none gs);
      used = λ q lt. absurd (omega arith);
      spent = rw (after_none gs) (omega arith);
    }

module _ {R S : ℕ} (gs : List Gate) (b : Buffer) (memory : Memory R S) (x k : ℕ) (w : Stepping gs b memory x k) where
  -- a pair that the search found is the first of the gates
  module _ (searched : Memory R S) (pair : Pair) (v : Remembers b searched pair.i) (f : PairAt (held b) pair) where
    first : First (after_steps k gs) (rank (held b) pair.i) (rank (held b) pair.j)
    first =
        subst (λ (l : List Gate). First l (rank (held b) pair.i) (rank (held b) pair.j)) w.list
        (first_at (held b) b.holds.gates searched.far pair v.known v.no_pair f)

    pub stepping_next : (t : Buffer) (later : Memory R S) (y : ℕ) → Remembers t later y
        → ungapped (held t) ≡ ruled (ungapped (held b)) (rank (held b) pair.i) (rank (held b) pair.j) → Stepping gs t later y (k + 1)
    stepping_next t later y u e =
        record {
          remembers = u;
          list = e ∙ ap (λ (l : List Gate). ruled l (rank (held b) pair.i) (rank (held b) pair.j)) w.list ∙ sym more;
          used = λ q l. ⊎_elim (λ (p : q ≡ k). rw p some) (λ (p : q < k). w.used q p) (here_or_later (omega arith));
          spent = omega (arith, w.spent, ap gates_and_controls (after_one_more k gs), stepped_gates_and_controls (step_stepped (after_steps k gs) some));
        }
      where
        some : untidy (after_steps k gs) ≡ true
        some = pair_some (after_steps k gs) (rank (held b) pair.i) (rank (held b) pair.j) first

        more : after_steps (k + 1) gs ≡ ruled (after_steps k gs) (rank (held b) pair.i) (rank (held b) pair.j)
        more = after_one_more k gs ∙ sym (pair_step (after_steps k gs) (rank (held b) pair.i) (rank (held b) pair.j) first)

  -- where it found none, the gates are tidy
  module _ (searched : Memory R S) (v : Remembers b searched b.count) where
    pub stepping_end : record { left = ungapped (held b); steps = k } ≡ tidied gs
    stepping_end =
        one_answer gs (record { left = ungapped (held b); steps = k }) (tidied gs)
        (record {
          left_is = w.list;
          used = w.used;
          ended = pair_none (ungapped (held b)) (first_none (held b) b.holds.gates searched.far b.count v.known v.count v.no_pair);
          few = omega (arith, w.spent);
        })
        (tidied_procedure gs)

-- The bytes afterwards: u, as the buffer leaves them, then c with the gaps closed, and then t with the freed records cleared.
pub tidied_done : (s u c t : List ℕ) (b : Buffer) (m left k : ℕ) → BufferHolds c (ungapped (gates_in u m)) → left ≡ length (ungapped (gates_in u m))
    → t ≡ take (8 * left) c ++ replicate (length c - 8 * left) 0 → TidyHeld s b k → b.count ≡ m → length s ≡ 8 * m → u ≡ b.bytes.now → length c ≡ length s → TidiedIn s t left k
tidied_done s u c t b m left k h all e done places size same len =
    let gs = ungapped (gates_in u m) in
    let list : gs ≡ (tidied (gates_of s)).left = rw (same, ← places) (ap (λ (r : Outcome). r.left) done) in
    let count : left ≡ length (tidied (gates_of s)).left = all ∙ ap length list in
    let bytes : take (8 * left) c ≡ bytes_of (tidied (gates_of s)).left = ap (λ (y : ℕ). take (8 * y) c) all ∙ holds_bytes c gs h ∙ ap bytes_of list in
    let freed : length c - 8 * left ≡ 8 * (records s - length (tidied (gates_of s)).left) = omega arith in
    record { count = count; uses = ap (λ (r : Outcome). r.steps) done; bytes = e ∙ rw (bytes, freed) }
