use Rattle.std.proofs.Common.{◌≡◌, take, subst, sym, ◌∙◌, arith}
use Rattle.std.specs.Prelude.{All, IsTrue}
use Rattle.std.proofs.lemmas.List.{take_all}
use Rattle.std.proofs.lemmas.List.Elements.{All-more}
use Rattle.glslpp_parts.specs.Warnings.{is_known}
use Rattle.glslpp_parts.proofs.warning.check_warnings.Goals as goal

pub loop-word-preserved : goal.loop-word-preserved
loop-word-preserved c =
    All-more (λ word. IsTrue (is_known word.now)) c.args.words.now c.loop-word.word-index _ (omega arith) c.loop-word.invariant
    (sym c.is_known.ensures ∙ c.if-not-is_known.false)

pub returns : goal.returns
returns c =
    let all : take c.loop-word.word-index c.args.words.now ≡ c.args.words.now = take_all c.loop-word.word-index c.args.words.now (omega arith) in
    subst (All (λ word. IsTrue (is_known word.now))) all c.loop-word.invariant
