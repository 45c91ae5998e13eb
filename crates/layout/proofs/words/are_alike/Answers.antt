use Rattle.std.proofs.Common.{refl, sym, subst, ◌∙◌}
use Rattle.lexer.specs.Reading.{left_of}
use Rattle.layout.specs.SameWords.{Alike}
use Rattle.layout.proofs.words.are_alike.Goals as goal

pub loop-init : goal.loop-init
loop-init c = record {
  same_one = refl;
  same_other = refl;
  back = λ a one other stays alike. alike;
}

pub returns-in-Ends : goal.returns-in-Ends
returns-in-Ends c = λ a one other stays yes.
    c.loop.invariant.back a one other stays
    (c.take_both.ensures.ends c.in-Ends.is a (one ∙ sym c.loop.invariant.same_one) (other ∙ sym c.loop.invariant.same_other))

pub loop-preserved : goal.loop-preserved
loop-preserved c = record {
  same_one = c.take_both.ensures.letters ∙ c.loop.invariant.same_one;
  same_other = c.take_both.ensures.others ∙ c.loop.invariant.same_other;
  back = λ a one other stays alike.
      c.loop.invariant.back a one other stays
      (c.take_both.ensures.goes c.in-Goes.is a (one ∙ sym c.loop.invariant.same_one) (other ∙ sym c.loop.invariant.same_other)
      (subst (λ b. Alike (left_of b c.take_both.new.one) (left_of b c.take_both.new.other)) (sym stays) alike));
}
