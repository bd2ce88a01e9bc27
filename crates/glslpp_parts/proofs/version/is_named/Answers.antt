use Rattle.std.proofs.Common.{◌∙◌, ap, nat_eq}
use Rattle.std.specs.Str.{chars}
use Rattle.std.specs.Cmp.Lexicographic.{pointwise}
use Rattle.pp_lexer.proofs.values.TextLemmas.{chars_tested}
use Rattle.glslpp_parts.proofs.version.is_named.Goals as goal

pub returns-in-Ident : goal.returns-in-Ident
returns-in-Ident c =
    rw c.in-Ident.is
    (c.eq.ensures ∙ chars_tested _ _ c.as_str.utf8 c.utf8.name ∙ ap (λ x. pointwise nat_eq x (chars c.args.name.now)) c.as_str.ensures
    ∙ ap (pointwise nat_eq c.in-Ident.text) c.requires)
