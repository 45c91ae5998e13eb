use Rattle.std.proofs.Common.{◌<◌, Ok, ap₂, sym, arith}
use Rattle.vcd_read.specs.Views.{state_of}
use Rattle.vcd_read.specs.Words.{code_number}
use Rattle.vcd_read.proofs.CodeLemmas.{has_code}
use Rattle.vcd_read.proofs.dumps.Dump.change_of_code.Goals as goal

pub returns-in-Some-clause-state : goal.returns-in-Some-clause-state
returns-in-Some-clause-state c =
    let code = c.args.code.now in
    let number = c.code_number-number.ensures in
    let some : 0 < code_number code = omega (arith, c.if-number-eq0.false) in
    rw (c.in-Some.is, has_code code some)
    (ap₂ (λ scl sda. Ok (record (state_of c.args.self.now) { scl = scl; sda = sda })) (sym (c.change_by_number.ensures.line code (sym number))) (sym (c.change_by_number-in-Some.ensures.line code (sym number))))
