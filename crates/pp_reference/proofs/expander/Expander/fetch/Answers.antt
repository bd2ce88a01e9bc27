use Rattle.std.proofs.Common.{sym, ap, ◌∙◌}
use Rattle.pp_model.specs.Taking.{shown_token}
use Rattle.pp_reference.proofs.FetchLemmas.{fetches_held, fetches_listed, fetches_read}
use Rattle.pp_reference.proofs.expander.Expander.fetch.Goals as goal

pub returns-in-Some-clause-fetches : goal.returns-in-Some-clause-fetches
returns-in-Some-clause-fetches g c =
    fetches_held g.R.Reader.reading c.in-Some.taken c.args.self.now.held c.take.new.self c.args.self.now.list.items
    (g.R.Reader.state c.args.self.now.reader) c.args.self.now.hidden.items (sym c.take.ensures.value ∙ c.in-Some.is) c.take.ensures.after

pub returns-in-Some-take_token-clause-fetches : goal.returns-in-Some-take_token-clause-fetches
returns-in-Some-take_token-clause-fetches g c =
    fetches_listed g.R.Reader.reading c.shown_token.result c.in-Some-take_token.read c.args.self.now.held c.take.new.self
    c.args.self.now.list.items c.take_token.new.list.items (g.R.Reader.state c.args.self.now.reader) c.args.self.now.hidden.items
    (sym c.take.ensures.value ∙ c.in_default.is) c.take.ensures.after c.in-Some-take_token.ensures
    (c.shown_token.ensures ∙ ap (λ l. shown_token (g.R.Reader.reading.shown_line (g.R.Reader.state c.args.self.now.reader)) l
    c.in-Some-take_token.read) c.deref.ensures.value)

pub returns-clause-fetches : goal.returns-clause-fetches
returns-clause-fetches g c =
    fetches_read g.R.Reader.reading c.in_ok-taken.taken c.shown_outcome.result c.args.self.now.held c.take.new.self
    c.args.self.now.list.items c.take_token.new.list.items (g.R.Reader.state c.args.self.now.reader) (g.R.Reader.state c.read.new.self)
    c.args.self.now.hidden.items (sym c.take.ensures.value ∙ c.in_default.is) c.take.ensures.after c.in_default-take_token.ensures.0
    c.in_default-take_token.ensures.1 c.in_ok-taken.ensures.reads c.shown_outcome.ensures
