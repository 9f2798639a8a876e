-- `tabulating::planes::apply_gate` meets its contract: the target's planes are those that `gate_shown` asks. Assumes nothing.
use Rattle.std.proofs.Common.{arith}
use Rattle.digits.specs.Digits.{digit}
use Rattle.gates.specs.Inner.Firing.{fires}
use Rattle.tabulating.proofs.PlaneTurns.{gate_shown}
use Rattle.tabulating.proofs.planes.apply_gate.Goals as goal

pub returns : goal.returns
returns c = λ n f shows.
    let g = c.args.g in
    gate_shown g n c.args.planes.now c.turn_line.result f (omega (arith, c.requires.on_line, c.told-planes)) shows
    (c.turn_line.ensures n (λ p. digit 3 g.target (f p)) (λ p. fires g (f p)) (shows.line g.target c.requires.on_line) (c.find_firing-firing.ensures n f shows))
