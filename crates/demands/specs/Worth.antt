-- What the answers are worth: the cascade of a table (demand 2), tidying (demand 3), and which of two cascades is the cheaper.
use Rattle.std.specs.Prelude.{ℕ, ◌^◌, ◌≤◌, ◌<◌, ◌≡◌, Bool, true, false, List, length, get_or}
use Rattle.gates.specs.declared.Gate.{Gate}
use Rattle.tables.specs.Permutations.{inverse_table}
use Rattle.cascades.specs.Cascades.{ran, undoing, Cascade}
use Rattle.pricing.specs.Prices.{cascade_price}
use Rattle.synthesis.specs.Synthesis.{synthesized}
use Rattle.rules.specs.Rules.{fits}
use Rattle.rules.specs.Tidying.{gate, is_open, gates_and_controls, tidied, Repetition}

-- v takes each entry of t back to its row, and t each entry of v
pub record InverseOf (patterns : ℕ) (t v : List ℕ) : Type 0 where
  pub size : length v ≡ patterns
  pub back : (p : ℕ) → p < patterns → get_or v (get_or t p 0) 0 ≡ p
  pub there : (q : ℕ) → q < patterns → get_or t (get_or v q 0) 0 ≡ q

-- the cascade of a table on n lines computes it; reversed and inverted it computes the inverse table, and gives back every input
pub record TableWorth (n : ℕ) (t : List ℕ) : Type 0 where
  pub cascade : Cascade n (synthesized n t)
  pub computes : (p : ℕ) → p < 3 ^ n → ran (synthesized n t) p ≡ get_or t p 0
  pub inverse : InverseOf (3 ^ n) t (inverse_table (3 ^ n) t)
  pub computes_back : (q : ℕ) → q < 3 ^ n → ran (undoing (synthesized n t)) q ≡ get_or (inverse_table (3 ^ n) t) q 0
  pub undone : (p : ℕ) → p < 3 ^ n → ran (undoing (synthesized n t)) (ran (synthesized n t) p) ≡ p

-- what is left of gates on n lines after tidying
pub record TidyWorth (n : ℕ) (gs : List Gate) : Type 0 where
  pub cascade : Cascade n (tidied gs).left
  pub keeps : (p : ℕ) → ran (tidied gs).left p ≡ ran gs p
  pub no_more_gates : length (tidied gs).left ≤ length gs
  pub no_dearer : (v s : ℕ) → cascade_price v s (tidied gs).left ≤ cascade_price v s gs
  pub ends : (i j : ℕ) → i < j → j < length (tidied gs).left → is_open (tidied gs).left i j ≡ true
      → fits (gate (tidied gs).left i) (gate (tidied gs).left j) ≡ false
  pub rule_uses : Repetition gs (tidied gs)
  pub few_steps : (tidied gs).steps ≤ gates_and_controls gs

-- of two cascades on a board with the value v and the fitted set s, whether the second is the cheaper: by cost, then by gates, then the first
pub record CheaperIs (v s : ℕ) (gs hs : List Gate) (second : Bool) : Type 0 where
  pub less_cost : cascade_price v s hs < cascade_price v s gs → second ≡ true
  pub more_cost : cascade_price v s gs < cascade_price v s hs → second ≡ false
  pub fewer_gates : cascade_price v s hs ≡ cascade_price v s gs → length hs < length gs → second ≡ true
  pub the_first : cascade_price v s hs ≡ cascade_price v s gs → length gs ≤ length hs → second ≡ false
