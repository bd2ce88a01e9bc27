-- What is taken over a list while nothing is open or held.
use Rattle.std.proofs.Common.{◌≡◌, ◌∙◌, Bool, true, false, List, [], ◌∷◌, Option, Some, None, Ok, Err, refl, sym, ap, subst, inl}
use Rattle.std.specs.Prelude.{if◌then◌else◌, is_none}
use Rattle.pp_lexer.specs.declared.token.TokenValue.{TokenValue}
use Rattle.pp_lexer.specs.declared.token.TokenValue.TheVariants.{Ident}
use Rattle.pp_model.specs.declared.read.Read.{Read}
use Rattle.pp_macros.specs.inner.Plain.{is_plain, is_plain_value}
use Rattle.pp_macros.specs.inner.Defined.{meaning_of, opened_by}
use Rattle.pp_model.specs.Definitions.{Definition}
use Rattle.pp_model.specs.Names.{Name, is_identifier, line_name}
use Rattle.pp_macros.specs.inner.CallTurns.{TurnsTo, gives, passes}
use Rattle.pp_macros.specs.inner.Expander.{Expander, StepsTaking, TakesNext, now}
use Rattle.pp_macros.specs.inner.Idle.{is_idle}
use Rattle.pp_macros.specs.inner.Reader.{Listing, of_list, Reads, is_reserved, listed_step}
use Rattle.pp_macros.specs.inner.Turns.{macro_of_value}
use Rattle.pp_macros.specs.inner.Frames.{Frame, names_of}
use Rattle.pp_macros.specs.inner.Nesting.{listed_in, seen_by}
use Rattle.pp_model.specs.Painting.{painted_among}
use Rattle.pp_model.specs.inner.Reading.{after_listed}
use Rattle.pp_macros.specs.declared.step.PlacedExit.TheVariants.{Finished}
use Rattle.pp_macros.specs.declared.calls.Taken.TheVariants as given
use Rattle.pp_macros.proofs.taking.ExpanderLemmas.{idle_steps}
use Rattle.pp_macros.proofs.taking.PaintedRunLemmas.{among_none, painted_steps}
use Rattle.pp_macros.proofs.taking.PlainLemmas.{plain_apart, plain_paint, plain_undefined}

-- a token of a list, and its end
pub lists_token : (l k : Listing) (read : Read) → l.tokens ≡ read ∷ k.tokens → k ≡ record l { tokens = k.tokens } → Reads (of_list l) (Ok read) (of_list k)
lists_token l k read has rest =
    inl (sym (ap listed_step has), rest ∙ ap (λ (tokens : List Read). record l { tokens = tokens }) (sym (ap after_listed has)))

-- the end, while nothing is open or held
pub list_ends : (m : Expander) (l : Listing) → is_idle m ≡ true → l.tokens ≡ [] → TurnsTo m (of_list l) (Err Finished) m (of_list l)
list_ends m l waits none =
    let same : l ≡ record l { tokens = after_listed l.tokens } =
    ap (λ (tokens : List Read). record l { tokens = tokens }) (none ∙ sym (ap after_listed none)) in
    let reads : Reads (of_list l) (Err Finished) (of_list l) = inl (ap listed_step (sym none), same) in
    passes Finished (Err Finished) m m (of_list l) (of_list l) (idle_steps m (of_list l) (of_list l) (Err Finished) waits reads refl) refl

-- what a token opens on a list that gives itself
plain_none : (l : Listing) (hidden : List Name) (painted : Bool) (value : TokenValue) → is_plain_value l.definitions hidden painted value ≡ true
    → (if painted then None else macro_of_value (of_list l) value) ≡ None
plain_none l hidden true value e = refl
plain_none l hidden false (Ident name) e = go (is_reserved l name) (meaning_of l.definitions name) (plain_undefined l.definitions hidden name e)
  where
    go : (b : Bool) (d : Option Definition) → is_none d ≡ true → opened_by name (if b then None else d) ≡ None
    go true d is = refl
    go false None is = refl
    go false (Some definition) is = cc
plain_none l hidden false _ e = refl

module _ (m : Expander) (below : List Frame) (l k : Listing) (read : Read) (waits : is_idle m ≡ true) (has : l.tokens ≡ read ∷ k.tokens)
    (rest : k ≡ record l { tokens = k.tokens }) where
  takes : is_identifier line_name read.token.value ≡ false
      → StepsTaking m (seen_by below (of_list l)) (Ok (painted_among (names_of below) read)) m (seen_by below (of_list k))
  takes apart = painted_steps m below waits (of_list l) (of_list k) read tt (lists_token l k read has rest) apart

  -- a token that gives itself is given
  pub plain_turns : is_plain l.definitions (names_of below) read ≡ true
      → TurnsTo m (seen_by below (of_list l)) (Ok (given.Token read)) m (seen_by below (of_list k))
  plain_turns plain =
      let apart = plain_apart l.definitions (names_of below) read.painted read.token.value plain in
      let same : painted_among (names_of below) read ≡ read =
      ap (λ (b : Bool). record read { painted = b }) (plain_paint l.definitions (names_of below) read.painted read.token.value plain) in
      gives read (Ok (given.Token read)) m m (seen_by below (of_list l)) (seen_by below (of_list k))
      (subst (λ (r : Read). StepsTaking m (seen_by below (of_list l)) (Ok r) m (seen_by below (of_list k))) same (takes apart))
      (plain_none (listed_in below k) (names_of below) read.painted read.token.value (rw rest plain)) refl

  -- if nothing is open around either, a token that isn't `__LINE__` is taken as it is
  pub alone_next : names_of below ≡ [] → is_identifier line_name read.token.value ≡ false
      → TakesNext m (seen_by below (of_list l)) (Ok read) m (seen_by below (of_list k))
  alone_next alone apart =
      let same : painted_among (names_of below) read ≡ read = ap (λ (names : List Name). painted_among names read) alone ∙ among_none read in
      now (Ok read) m m (seen_by below (of_list l)) (seen_by below (of_list k))
      (subst (λ (r : Read). StepsTaking m (seen_by below (of_list l)) (Ok r) m (seen_by below (of_list k))) same (takes apart)) refl
