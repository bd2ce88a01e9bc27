use Rattle.std.proofs.Common.{ap, ◌∙◌, pos}
use Rattle.std.proofs.lemmas.Str.{chars-IsAscii}
use Rattle.pp_lexer.specs.declared.token.TokenValue.TheVariants.{Ident, Float}
use Rattle.pp_rs.proofs.pp.token_ref.ValueRef.of_word.Goals as goal

pub returns-in-Identifier : goal.returns-in-Identifier
returns-in-Identifier c = rw c.in-Identifier.is (ap Ident (chars-IsAscii c.args.word.now.spelling.now c.requires.ascii))

pub returns-in-Float : goal.returns-in-Float
returns-in-Float c = rw c.in-Float.is (ap (λ text. Float (record { text = text; width = pos 32 })) (chars-IsAscii c.args.word.now.spelling.now c.requires.ascii))

pub returns-in-SuffixedFloat : goal.returns-in-SuffixedFloat
returns-in-SuffixedFloat c =
    let e = c.without_suffix.ensures in
    rw c.in-SuffixedFloat.is (ap (λ text. Float (record { text = text; width = pos 32 })) (chars-IsAscii c.without_suffix.result.now e.ascii ∙ e.value))
