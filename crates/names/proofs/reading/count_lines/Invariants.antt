use Rattle.std.proofs.Common.{◌≡◌, length}
use Rattle.names.specs.Names.{text_lines}
use Rattle.names.proofs.NamedTexts.{Reading}
use Rattle.names.proofs.reading.count_lines.Given as goal

abbrev pub invariant-loop-line : goal.invariant-loop-line
invariant-loop-line l =
    (l.count ≡ length l.yielded) × Reading l.lines (text_lines l.text) l.count
