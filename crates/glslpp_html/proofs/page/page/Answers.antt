use Rattle.std.proofs.Common.{◌∙◌, ◌++◌, subst, string_bytes}
use Rattle.std.specs.List.{flat_map}
use Rattle.std.specs.Str.{chars}
use Rattle.glslpp_html.specs.Pages.{text_of_part}
use Rattle.glslpp_html.specs.Shown.{Shows, escaped_character}
use Rattle.glslpp_html.proofs.Characters.{if_ok}
use Rattle.glslpp_html.proofs.Showing.{four_parts, from_nothing}
use Rattle.glslpp_html.specs.declared.style.TheConstants.{START, STYLE}
use Rattle.glslpp_html.proofs.page.page.Goals as goal

pub returns : goal.returns
returns c =
    if_ok c.format.result _ _ (λ page e. record {
      named = string_bytes c.push_text.new.page;
      body = string_bytes c.in_ok-body.body;
      parts = c.in_ok-parts.parts.items;
      is = e ∙ four_parts START.now (string_bytes c.push_text.new.page) STYLE.now (string_bytes c.in_ok-body.body);
      shows_title = from_nothing (string_bytes c.push_text.new.page) (string_bytes c.new-named.result)
          (flat_map escaped_character (chars c.args.title.now)) c.new-named.ensures.bytes c.in_ok-push_text.ensures;
      are_whole = c.in_ok-parts.ensures;
      shows = subst (λ parts. Shows (chars (string_bytes c.in_ok-body.body)) (chars c.args.command.now ++ flat_map text_of_part parts))
          c.as_slice.ensures.value c.in_ok-body.ensures;
    }) c.format.ensures.ok
