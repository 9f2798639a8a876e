-- The refusal card: what a call answers, and what it leaves in a buffer that was lent to it.
use Rattle.std.specs.Prelude.{ℕ, Bool, cond, not, ◌&&◌, List, [], ◌++◌, leb, length, drop}

-- accepted, with the values in the order of document 01's sentence on the call; or refused, with number and place
pub data Answer : Type 0 where
  accepted : List ℕ → Answer
  refused : ℕ → ℕ → Answer

-- an answer's number (0 for accepted), place and values
abbrev pub number : Answer → ℕ
number (accepted vs) = 0
number (refused k p) = k

abbrev pub place : Answer → ℕ
place (accepted vs) = 0
place (refused k p) = p

abbrev pub values : Answer → List ℕ
values (accepted vs) = vs
values (refused k p) = []

-- refusal k at p where the test holds, and else the answer x
unfoldable pub refusing : Bool → ℕ → ℕ → Answer → Answer
refusing bad k p x = cond bad (refused k p) x

-- lines are 1 to 6
unfoldable pub lines_ok : ℕ → Bool
lines_ok n = leb 1 n && leb n 6

-- refusal 1 of the lines, and else the answer x
unfoldable pub on_lines : ℕ → Answer → Answer
on_lines n x = refusing (not (lines_ok n)) 1 0 x

-- what a lent buffer holds afterwards: the new content where the call accepts, and what it held where it refuses
unfoldable pub after : Answer → List ℕ → List ℕ → List ℕ
after (accepted vs) new old = new
after (refused k p) new old = old

-- a room with xs at its start: what lies beyond keeps its old content
unfoldable pub laid : List ℕ → List ℕ → List ℕ
laid xs room = xs ++ drop (length xs) room
