use Rattle.std.proofs.Common.{◌∙◌, ap, nat_eq}
use Rattle.std.specs.Str.{chars}
use Rattle.std.specs.Cmp.Lexicographic.{pointwise}
use Rattle.pp_lexer.proofs.values.TextLemmas.{chars_tested}
use Rattle.pp_model.proofs.TextLemmas.{apart_by_length}
use Rattle.pp_model.proofs.names.is_spelled.Goals as goal

pub returns-then-name-spelling : goal.returns-then-name-spelling
returns-then-name-spelling c =
    c.eq.ensures ∙ chars_tested _ _ c.as_str-name.utf8 c.utf8.spelling ∙ ap (λ x. pointwise nat_eq x (chars c.args.spelling.now)) c.as_str-name.ensures

pub returns-else-name-spelling : goal.returns-else-name-spelling
returns-else-name-spelling c =
    apart_by_length _ _ c.if-name-spelling.false ∙ chars_tested _ _ c.as_str-name.utf8 c.utf8.spelling
    ∙ ap (λ x. pointwise nat_eq x (chars c.args.spelling.now)) c.as_str-name.ensures
