-- P1 to P13 of document 01, its printed listing and its edges hold of the definitions: one statement over one list, computed. Assumes nothing.
use mathlib.Core.Path.{◌≡◌, refl}
use mathlib.Core.List.{map}
use Rattle.ranges.specs.Ranges.{every, some, sum, first, span}
use Rattle.ranges.specs.Lists.{total, through}
use Rattle.digits.specs.Digits.{digit, put, pack}
use Rattle.card.specs.Card.{refusing, lines_ok, on_lines, after, laid}
use Rattle.gates.specs.Gates.{act, inverse_op, holds, fires_on, changed, applied, inverse, control_count}
use Rattle.gates.specs.Records.{line_ok, lines_ok_at, packed_at, is_record, gate_at, record_of}
use Rattle.tables.specs.Tables.{too_large, repeated, first_large, first_repeated, on_table, check_table_answer}
use Rattle.procedure.specs.Procedure.{adding, digit_step, row_steps, rows, settled, cascade_for}
use Rattle.cascades.specs.Cascades.{gates_of, bytes_of, table_for}
use Rattle.cascades.specs.Answers.{length_ok, bad_record, first_bad, on_records, check_answer}
use Rattle.boards.specs.Boards.{set_ok, is_fitted, on_board}
use Rattle.pricing.specs.Prices.{base, others, plain_price, gate_price, cascade_price, price_answer}
use Rattle.synthesis.specs.Synthesis.{exchanger, control_for, gate_for, synthesized, bound, synthesize_answer, synthesize_room}
use Rattle.rules.specs.Places.{is_c, same_type, upsets, blocks, clashes, may_change}
use Rattle.rules.specs.Rules.{same_lines, differ_at, differences, line_of, cancels, merges, reduces, fits, with_control, loosened, retuned}
use Rattle.rules.specs.Tidying.{is_open, fitting, first_j, first_i, without, ruled, untidy, step}
use Rattle.rules.specs.Tidying.{tidied_within, gates_and_controls, tidied, tidy_answer, tidy_buffer}
use Rattle.texts.specs.Texts.{width, decimal, joined}
use Rattle.texts.specs.GateTexts.{line_text, control_text, gate_text, gate_texts}
use Rattle.listings.specs.Listings.{operator_name, head_text, listing_with, listing_text}
use Rattle.sheets.specs.Sheets.{lines_of, entries_of, file_answer, text_for, sheet_text}
use Rattle.cases.specs.Cases.{Case, cases}

pub all_hold : map (λ (c : Case). c.computed) cases ≡ map (λ (c : Case). c.expected) cases
unfolding every some sum first span
    total through
    digit put pack
    refusing lines_ok on_lines after laid
    act inverse_op holds fires_on changed applied inverse
    line_ok lines_ok_at packed_at is_record gate_at record_of
    too_large repeated first_large first_repeated on_table check_table_answer
    adding digit_step row_steps rows settled cascade_for
    gates_of bytes_of table_for
    set_ok is_fitted on_board
    base control_count others plain_price gate_price cascade_price
    length_ok bad_record first_bad on_records check_answer price_answer
    exchanger control_for gate_for synthesized bound synthesize_answer synthesize_room
    is_c same_type upsets blocks clashes may_change
    same_lines differ_at differences line_of cancels merges reduces fits with_control loosened retuned
    is_open fitting first_j first_i without ruled untidy step
    tidied_within gates_and_controls tidied tidy_answer tidy_buffer
    width decimal joined
    line_text control_text gate_text gate_texts
    operator_name head_text listing_with listing_text
    lines_of entries_of file_answer text_for sheet_text
all_hold = refl
