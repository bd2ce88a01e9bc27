use Rattle.std.proofs.Common.{suc}
use Rattle.pp_lexer.specs.PassedWords.{AreOthersTaken}
use Rattle.pp_directives.proofs.PassedWordsLemmas.{others_each, others_fit}
use Rattle.pp_directives.proofs.source_lexer.SourceLexer.pass_words.Goals as goal

pub invariant_of-self-2 : goal.invariant_of-self-2
invariant_of-self-2 c =
    let taken : AreOthersTaken c.self.inside.lexer c.pass_words.new.self = rw c.if-not-pass_words.false at c.pass_words.ensures in
    λ fresh. others_fit (suc taken.more) c.self.inside.lexer c.pass_words.new.self taken.taken (c.self.invariant taken.unspent)

pub returns : goal.returns
returns c =
    let taken : AreOthersTaken c.self.inside.lexer c.pass_words.new.self = rw c.if-not-pass_words.false at c.pass_words.ensures in
    rw (← c.self.view_is) (
      taken.more,
      others_each (suc taken.more) c.self.inside.lexer c.pass_words.new.self c.self.inside.error_place taken.unspent
          (c.self.invariant taken.unspent).2 taken.taken,
    )
