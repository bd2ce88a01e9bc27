use Rattle.std.proofs.Common.{◌∙◌, ◌++◌, ap, sym, rules, string_bytes}
use Rattle.std.specs.List.{flat_map}
use Rattle.std.specs.Str.{chars}
use Rattle.std.proofs.lemmas.Iterator.{YieldsList-from_chars}
use Rattle.std.proofs.lemmas.Iterator.Consumers.{YieldsList-end}
use Rattle.std.proofs.lemmas.List.{map-id}
use Rattle.glslpp_html.specs.Shown.{link_character}
use Rattle.glslpp_html.proofs.Characters.{one_more}
use Rattle.glslpp_html.proofs.text.push_link.Goals as goal

pub characters-preserved : goal.characters-preserved
characters-preserved c = one_more link_character (chars (string_bytes c.args.link.now)) _ _ c.characters.yielded c.in-Some.c c.characters.invariant c.in_ok-push_link_character.ensures

pub returns : goal.returns
returns c =
    let all = YieldsList-end (YieldsList-from_chars {s = c.into_iter-c-iterator.result} c.args.name.now c.utf8.name (search rules))
    c.characters.yielded c.characters.c-iterator c.characters.yielded_by c.next.result c.next.new.self c.in-None.is c.next.ensures.steps in
    c.characters.invariant ∙ ap (λ cs. chars (string_bytes c.args.link.now) ++ flat_map link_character cs) (sym (map-id c.characters.yielded) ∙ all.0)
