use Rattle.std.proofs.Common.{length}
use Rattle.names.specs.Names.{text_lines}
use Rattle.names.proofs.NamedTexts.{Laying}
use Rattle.names.proofs.reading.write_records.Given as goal

abbrev pub invariant-loop-line : goal.invariant-loop-line
invariant-loop-line l =
    Laying (text_lines l.text) l.initial.room l.room l.to (length l.yielded)
