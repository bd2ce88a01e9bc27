use Rattle.std.proofs.Common.{string_bytes}
use Rattle.glslpp_html.proofs.Showing.{entry_shown}
use Rattle.glslpp_html.proofs.overview.push_entry.Goals as goal

pub returns : goal.returns
returns c =
    entry_shown c.close.result (string_bytes c.args.body.now) (string_bytes c.open.new.page) (string_bytes c.push_linked.new.body)
    (string_bytes c.push_text.new.page) (string_bytes c.push_text-2.new.page) (string_bytes c.push_text-3.new.page) (string_bytes c.close.new.page)
    c.args.entry.now.name.now c.args.entry.now.note.now c.in_ok-open.ensures c.in_ok-push_linked.ensures c.in_ok-push_text.ensures
    c.in_ok-push_text-2.ensures c.in_ok-push_text-3.ensures c.close.ensures
