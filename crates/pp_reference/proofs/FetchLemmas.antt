-- What is fetched, over the parts of an expander.
use Rattle.std.proofs.Common.{◌≡◌, ◌∷◌, [], List, ap, sym, ◌∙◌}
use Rattle.std.specs.Prelude.{Option, Some, None}
use Rattle.pp_model.specs.Names.{Name}
use Rattle.pp_model.specs.SpliceList.{after_marks}
use Rattle.pp_model.specs.Reading.{Reading, Expander}
use Rattle.pp_model.specs.Taking.{Fetches, held, listed, read, shown_token, shown_outcome}
use Rattle.pp_model.specs.declared.read.Read.{Read}
use Rattle.pp_model.specs.declared.read.Taken.{Taken}
use Rattle.pp_model.specs.declared.splice.Entry.{Entry}
use Rattle.pp_model.specs.declared.splice.Entry.TheVariants.{Plain}

abbrev pub expander_at : {S : Type 0} → Option Taken → List Entry → S → List Name → Expander S
expander_at kept list reader hidden = record { held = kept; list = list; reader = reader; hidden = hidden }

pub fetches_held : {S : Type 0} (I : Reading S) (o : Taken) (kept left : Option Taken) (list : List Entry) (reader : S) (hidden : List Name)
    → kept ≡ Some o → left ≡ None → Fetches I (expander_at kept list reader hidden) o (expander_at left list reader hidden)
fetches_held I o kept left list reader hidden p q =
    held o (expander_at kept list reader hidden) (expander_at left list reader hidden) p (ap (λ h. expander_at h list reader hidden) q)

pub fetches_listed : {S : Type 0} (I : Reading S) (o : Taken) (x : Read) (kept left : Option Taken) (list rest : List Entry)
    (reader : S) (hidden : List Name) → kept ≡ None → left ≡ None → after_marks list ≡ Plain x ∷ rest
    → o ≡ shown_token (I.shown_line reader) rest x → Fetches I (expander_at kept list reader hidden) o (expander_at left rest reader hidden)
fetches_listed I o x kept left list rest reader hidden p q m t =
    listed o x rest (expander_at kept list reader hidden) (expander_at left rest reader hidden) p m t
    (ap (λ h. expander_at h rest reader hidden) (q ∙ sym p))

pub fetches_read : {S : Type 0} (I : Reading S) (x o : Taken) (kept left : Option Taken) (list rest : List Entry)
    (reader after : S) (hidden : List Name) → kept ≡ None → left ≡ None → after_marks list ≡ [] → rest ≡ [] → I.Reads reader x after
    → o ≡ shown_outcome (I.shown_line after) x → Fetches I (expander_at kept list reader hidden) o (expander_at left rest after hidden)
fetches_read I x o kept left list rest reader after hidden p q m n r t =
    read x o after (expander_at kept list reader hidden) (expander_at left rest after hidden) p m r t
    (ap (λ h. expander_at h rest after hidden) (q ∙ sym p) ∙ ap (λ l. expander_at kept l after hidden) n)
