-- The run of a source and its definitions, by the state that the definitions were added in
use Rattle.std.proofs.Common.{◌≡◌, ℕ, List, ◌++◌, ◌⊎◌, inr, Option, IfSome, Result, Ok, IfOk, ap, sym, subst, ◌∙◌}
use Rattle.std.specs.Str.{chars}
use Rattle.std.proofs.lemmas.Option.{IfSome_then}
use Rattle.std.proofs.lemmas.Result.{IfOk-weaker}
use Rattle.pp_rs.specs.Comes.{State, with_added}
use Rattle.pp_rs.specs.Kept.{Preprocessing, Stands}
use Rattle.pp_rs.specs.declared.token.Token.{Token}
use Rattle.pp_print.specs.inner.Defining.{AreAdded}
use Rattle.pp_print.specs.inner.Printing.{ArePrinted, AreBegun}
use Rattle.pp_print.specs.Runs.{IsPrinted, IsBegun}
use Rattle.pp_print.specs.SourceRuns.{Definition, tokens_of, start_of, Adds, none, first, AreFirstOf, EndsFrom, IsRunOf}
use Rattle.pp_print.specs.declared.ends.RunEnd.{RunEnd}
use Rattle.pp_print.specs.declared.ends.RunFault.{RunFault}
use Rattle.pp_print.proofs.GivesLemmas.{one_run_from, first_tokens_from}

-- definitions make a state one other
one_state : (ds : List Definition) (e f g : State) → Adds e ds f → Adds e ds g → f ≡ g
one_state ds e f g (none e1 ds1 f1 p q) (none e2 ds2 f2 r s) = q ∙ sym s
one_state ds e f g (none e1 ds1 f1 p q) (first d tokens rest e2 ds2 f2 has more r) = cc
one_state ds e f g (first d tokens rest e1 ds1 f1 has more p) (none e2 ds2 f2 r s) = cc
one_state ds e f g (first d tokens rest e1 ds1 f1 has more p) (first other others left e2 ds2 f2 holds again r) =
    let same : other ≡ d = cc in
    let those : left ≡ rest = cc in
    let its : tokens_of d ≡ Ok others = ap tokens_of (sym same) ∙ holds in
    let these : others ≡ tokens = cc in
    let there : with_added (chars other.0.now) others e ≡ with_added (chars d.0.now) tokens e =
    ap (λ (x : Definition). with_added (chars x.0.now) others e) same ∙ ap (λ ts. with_added (chars d.0.now) ts e) these in
    one_state rest (with_added (chars d.0.now) tokens e) f g more
    (subst (λ s. Adds s rest g) there (subst (λ ds. Adds (with_added (chars other.0.now) others e) ds g) those again))

module _ (source : List ℕ) (ds : List Definition) where
  -- a source and definitions have one run
  pub one_run_of : (tokens others : List Token) (end other : RunEnd) → IsRunOf source ds tokens end → IsRunOf source ds others other
      → (tokens ≡ others) × (end ≡ other)
  one_run_of tokens others end other a b =
      let same = one_state ds (start_of source) b.state a.state b.adds a.adds in
      one_run_from a.state tokens others end other a.run (subst (λ s. EndsFrom s others other) same b.run)

  -- which the tokens that come first begin
  pub first_tokens_of : (tokens all : List Token) (end : RunEnd) → AreFirstOf source ds tokens → IsRunOf source ds all end → (more : List Token)
      × (all ≡ tokens ++ more)
  first_tokens_of tokens all end a b =
      let same = one_state ds (start_of source) b.state a.state b.adds a.adds in
      first_tokens_from a.state tokens all end a.first (subst (λ s. EndsFrom s all end) same b.run)

-- the source was read, and the definitions were added to a preprocessor of it
module _ (known : Option (List ℕ)) (source : List ℕ) (ds : List Definition)
    (fresh items : Preprocessing) (read : IfSome known (λ bytes. source ≡ bytes)) (stands : Stands fresh (start_of source)) (added : AreAdded fresh ds items)
    (old new : Option (List ℕ)) where
  -- what holds of the bytes that were read holds of the source's, where these are known
  of_source : (P : List ℕ → Type 0) → P source → IfSome known P
  of_source P h = IfSome_then known read (λ bytes same. subst P same h)

  printed_at : (end : RunEnd) → ArePrinted items end old new → IsPrinted (IsRunOf source ds) end old new
  printed_at end printed =
      let state = added.stands (start_of source) stands in
      let p = printed state.0 state.2 in
      record { tokens = p.tokens; run = record { state = state.0; adds = state.1; run = p.run }; written = p.written }

  -- what is printed of its items is printed of their run
  pub printed_of : (r : Result RunEnd RunFault) → IfOk r (λ end. ArePrinted items end old new)
      → IfOk r (λ end. IfSome known (λ bytes. IsPrinted (IsRunOf bytes ds) end old new))
  printed_of r h = IfOk-weaker r (λ end. ArePrinted items end old new) (λ end. IfSome known (λ bytes. IsPrinted (IsRunOf bytes ds) end old new))
      (λ end printed. of_source (λ bytes. IsPrinted (IsRunOf bytes ds) end old new) (printed_at end printed)) h

  begun_at : AreBegun items old new → IsBegun (AreFirstOf source ds) old new
  begun_at begun =
      let state = added.stands (start_of source) stands in
      let p = begun state.0 state.2 in
      record { tokens = p.tokens; first = record { state = state.0; adds = state.1; first = p.first }; lines = p.lines; begin = p.begin; written = p.written }

  -- and what begins their output begins that of the run
  pub begun_of : (Nothing : Type 0) → AreBegun items old new → IfSome known (λ bytes. Nothing ⊎ IsBegun (AreFirstOf bytes ds) old new)
  begun_of Nothing begun = of_source (λ bytes. Nothing ⊎ IsBegun (AreFirstOf bytes ds) old new) (inr (begun_at begun))
