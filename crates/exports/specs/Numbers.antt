-- An answer as the five numbers that C and Rust callers get.
use Rattle.std.specs.Prelude.{ℕ, ◌+◌, ◌*◌, [], ◌∷◌, get_or, Ok, Err, Some, None}
use Rattle.card.specs.Card.{Answer, Answer.accepted, Answer.refused, number, place, values}
use Rattle.card.specs.Answers.{number_of, place_of}
use Rattle.readers.specs.Readers.{Given}
use Rattle.readers.specs.declared.Turn.{Turn}
use Rattle.serials.specs.declared.Serial.{Serial}
use Rattle.serials.specs.Serials.{standing}
use Rattle.exports.specs.declared.Numbers.{Numbers}

-- number (0 for accepted), place, and the first three values; those that an answer doesn't have are 0
abbrev pub numbers : Answer → Numbers
numbers a =
    record { number = number a; place = place a; first = get_or (values a) 0 0; second = get_or (values a) 1 0; third = get_or (values a) 2 0 }

-- a reader's turn: 1 for a gate and 0 for the end, the place afterwards, and the gate as one number: the operator in byte 0, the target in byte 1,
-- the packed controls from byte 2 on
abbrev pub handed_as : Given → ℕ → Answer
handed_as (Ok (Some g)) at = accepted (1 ∷ at ∷ (g.operator + 256 * g.target + 0x1_0000 * g.controls) ∷ [])
handed_as (Ok None) at = accepted (0 ∷ at ∷ [])
handed_as (Err e) at = refused (number_of e) (place_of e)

abbrev pub turn_as : Turn → Answer
turn_as t = handed_as t.given t.at

-- what a reader of the serial lead answers
abbrev pub said_by : Serial → Numbers
said_by r = numbers (standing r)
