-- What request 2 of document 02 says of prices, of 13 and of the choice holds of the definitions: computed. Assumes nothing.
use mathlib.Core.Path.{◌≡◌, refl}
use mathlib.Core.List.{map}
use Rattle.ranges.specs.Ranges.{every, sum, first, span}
use Rattle.ranges.specs.Lists.{total, through}
use Rattle.digits.specs.Digits.{digit, put, pack}
use Rattle.card.specs.Card.{refusing, lines_ok, on_lines}
use Rattle.gates.specs.Gates.{act, holds, fires_on, changed, applied, control_count}
use Rattle.gates.specs.Records.{line_ok, lines_ok_at, packed_at, is_record, gate_at}
use Rattle.cascades.specs.Cascades.{gates_of}
use Rattle.cascades.specs.Answers.{length_ok, bad_record, first_bad, on_records}
use Rattle.boards.specs.Boards.{set_ok, is_fitted, on_board}
use Rattle.pricing.specs.Prices.{base, others, plain_price, gate_price, cascade_price, price_answer}
use Rattle.choice.specs.Choice.{first_difference, second_wins, choose_answer}
use Rattle.cases.specs.Cases.{Case}
use Rattle.cases.specs.FittedSets.{set_cases}

pub sets_hold : map (λ (c : Case). c.computed) set_cases ≡ map (λ (c : Case). c.expected) set_cases
unfolding every sum first span
    total through
    digit put pack
    refusing lines_ok on_lines
    act holds fires_on changed applied
    line_ok lines_ok_at packed_at is_record gate_at
    gates_of
    set_ok is_fitted on_board
    base control_count others plain_price gate_price cascade_price
    length_ok bad_record first_bad on_records price_answer
    first_difference second_wins choose_answer
sets_hold = refl
