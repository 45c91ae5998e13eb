use Rattle.std.proofs.Common.{◌<◌, Ok, None, ap₂, sym, ◌∙◌, arith}
use Rattle.vcd_read.specs.Views.{state_of}
use Rattle.vcd_read.specs.Words.{code_number}
use Rattle.vcd_read.proofs.CodeLemmas.{short_change}
use Rattle.vcd_read.proofs.dumps.Dump.change_short.Goals as goal

pub returns-clause-read : goal.returns-clause-read
returns-clause-read c = λ taken line.
    let code = c.in-Some.code.now in
    let number = c.code_number-number.ensures in
    let some : 0 < code_number code = omega (arith, c.if-number-eq0.false) in
    rw c.in-Some.ensures.cases.0
    (short_change (state_of c.args.self.now) c.in-Some.value.now code line c.in-Some-binary_level_of.level c.in-Nothing.is c.if-not-self.false (sym c.in-Some-binary_level_of.ensures) some
    ∙ ap₂ (λ scl sda. Ok (record (state_of c.args.self.now) { scl = scl; sda = sda }, None)) (sym (c.change_by_number.ensures.line code (sym number))) (sym (c.change_by_number-2.ensures.line code (sym number))))
