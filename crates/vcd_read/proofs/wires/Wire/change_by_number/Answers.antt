use Rattle.vcd_read.specs.Views.{line_of}
use Rattle.vcd_read.proofs.CodeLemmas.{changed_by_number}
use Rattle.vcd_read.proofs.wires.Wire.change_by_number.Goals as goal

pub returns-clause-line : goal.returns-clause-line
returns-clause-line c = λ code is. changed_by_number code c.args.level (line_of c.args.self.now) c.args.number c.args.self.now.number c.requires is c.args.self.now.number_of_code
