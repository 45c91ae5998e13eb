use Rattle.std.proofs.Common.{rules, refl, sym, ◌∙◌}
use Rattle.lexer.proofs.LexemeLemmas.{front_is, skips_line_feed, skips_space, skips_comment}
use Rattle.lexer.proofs.lexers.Lexer.skip_blank.Goals as goal

pub loop-self-preserved-in-10 : goal.loop-self-preserved-in-10
loop-self-preserved-in-10 c = record {
  same = λ a by. skips_line_feed a _ _ _ (front_is _ _ c.in-len1-up.len_at_least c.in-10.is) ∙ c.loop-self.invariant.same a by;
  letters = c.loop-self.invariant.letters;
  shorter = search rules;
}

pub loop-self-preserved-in-32 : goal.loop-self-preserved-in-32
loop-self-preserved-in-32 c = record {
  same = λ a by. skips_space a _ _ _ _ (front_is _ _ c.in-len1-up.len_at_least refl) c.in-32.is ∙ c.loop-self.invariant.same a by;
  letters = c.loop-self.invariant.letters;
  shorter = search rules;
}

pub loop-self-preserved : goal.loop-self-preserved
loop-self-preserved c = record {
  same = λ a by. skips_comment a _ _ _ _ (front_is _ _ c.in-len1-up.len_at_least c.in-35.is) (c.after_comment-self.ensures.lexemes a _ (by ∙ sym c.loop-self.invariant.letters)) ∙ c.loop-self.invariant.same a by;
  letters = c.loop-self.invariant.letters;
  shorter = search rules;
}
