-- The tokens of a call, cut at its commas one after another.
use Rattle.std.proofs.Common.{◌≡◌, ◌∙◌, ℕ, ◌+◌, ◌-◌, ◌≤◌, Bool, true, false, ◌&&◌, ◌==◌, if◌then◌else◌, List, [], ◌∷◌, ◌++◌, length, drop, refl, sym, ap, arith, append_assoc}
use Rattle.std.specs.Prelude.{slice_range}
use Rattle.std.proofs.lemmas.List.{append-nil, map-append, drop_all}
use Rattle.std.proofs.lemmas.List.Edits.{between_none}
use Rattle.pp_lexer.specs.declared.token.Punct.TheVariants.{Comma}
use Rattle.pp_model.specs.declared.read.Read.{Read}
use Rattle.pp_lexer.specs.declared.token.TokenValue.{TokenValue}
use Rattle.pp_lexer.specs.declared.token.TokenValue.TheVariants.{Punct}
use Rattle.pp_model.specs.Calls.{arguments_of, pieces, Pieces, cut_before, is_comma, is_left_paren, is_right_paren, nesting_after}
use Rattle.pp_macros.specs.declared.argument_lists.Part.{Part}
use Rattle.pp_macros.specs.inner.Parts.{list_of, lists_of, AreInOrder}
use Rattle.pp_macros.proofs.taking.PartLemmas.{in_order_push}

-- a comma opens and closes nothing
kept_open : (depth : ℕ) (value : TokenValue) → is_comma value ≡ true → nesting_after depth value ≡ depth
kept_open depth (Punct Comma) h = refl
kept_open depth _ h = cc

first_true : (a b : Bool) → (a && b) ≡ true → a ≡ true
first_true true b h = refl
first_true false b h = cc

one_more : (n : ℕ) (opens closes : Bool) → (if opens then n + 1 else if closes then n - 1 else n) ≤ n + 1
one_more n true closes = omega arith
one_more n false true = omega arith
one_more n false false = omega arith

-- an argument ends
pub ends_piece : (tokens rest old : List Read) (read : Read) (depth : ℕ) (done after : List (List Read)) (piece empty : List Read)
    → arguments_of tokens ≡ done ++ ((piece ++ (pieces depth old).first) ∷ (pieces depth old).others)
    → old ≡ read ∷ rest → (is_comma read.token.value && (depth == 0)) ≡ true → after ≡ done ++ piece ∷ [] → empty ≡ []
    → arguments_of tokens ≡ after ++ ((empty ++ (pieces depth rest).first) ∷ (pieces depth rest).others)
ends_piece tokens rest old read depth done after piece empty cut is ends closed none =
    let kept : nesting_after depth read.token.value ≡ depth = kept_open depth read.token.value (first_true (is_comma read.token.value) (depth == 0) ends) in
    let here : pieces depth old ≡ cut_before true read (pieces depth rest) =
    ap (pieces depth) is ∙ ap (λ (b : Bool). cut_before b read (pieces (nesting_after depth read.token.value) rest)) ends
    ∙ ap (λ (n : ℕ). cut_before true read (pieces n rest)) kept in
    cut ∙ ap (λ (p : Pieces). done ++ ((piece ++ p.first) ∷ p.others)) here
    ∙ ap (λ (first : List Read). done ++ (first ∷ ((pieces depth rest).first ∷ (pieces depth rest).others))) (append-nil piece)
    ∙ sym (append_assoc done (piece ∷ []) ((pieces depth rest).first ∷ (pieces depth rest).others))
    ∙ ap (λ (ps : List (List Read)). ps ++ ((pieces depth rest).first ∷ (pieces depth rest).others)) (sym closed)
    ∙ ap (λ (start : List Read). after ++ ((start ++ (pieces depth rest).first) ∷ (pieces depth rest).others)) (sym none)

-- an argument goes on
pub grows_piece : (tokens rest old : List Read) (read : Read) (depth deeper : ℕ) (done : List (List Read)) (piece grown : List Read)
    → arguments_of tokens ≡ done ++ ((piece ++ (pieces depth old).first) ∷ (pieces depth old).others)
    → old ≡ read ∷ rest → (is_comma read.token.value && (depth == 0)) ≡ false → deeper ≡ nesting_after depth read.token.value → grown ≡ piece ++ read ∷ []
    → arguments_of tokens ≡ done ++ ((grown ++ (pieces deeper rest).first) ∷ (pieces deeper rest).others)
grows_piece tokens rest old read depth deeper done piece grown cut is goes_on after more =
    let here : pieces depth old ≡ cut_before false read (pieces deeper rest) =
    ap (pieces depth) is ∙ ap (λ (b : Bool). cut_before b read (pieces (nesting_after depth read.token.value) rest)) goes_on
    ∙ ap (λ (n : ℕ). cut_before false read (pieces n rest)) (sym after) in
    cut ∙ ap (λ (p : Pieces). done ++ ((piece ++ p.first) ∷ p.others)) here
    ∙ ap (λ (first : List Read). done ++ (first ∷ (pieces deeper rest).others))
    (sym (append_assoc piece (read ∷ []) (pieces deeper rest).first) ∙ ap (λ (ts : List Read). ts ++ (pieces deeper rest).first) (sym more))

-- so many parentheses are open at most
nesting_within : (depth at : ℕ) (value : TokenValue) → depth ≤ at → nesting_after depth value ≤ at + 1
nesting_within depth at value few = let more = one_more depth (is_left_paren value) (is_right_paren value) in omega (arith, few, more)

-- The arguments that ended before a position, where the next begins at `start` and so many parentheses are open.
pub record CutTo (tokens : List Read) (parts : List Part) (start at depth : ℕ) : Type 0 where
  pub cut : arguments_of tokens ≡ lists_of tokens parts ++ ((slice_range tokens start at ++ (pieces depth (drop at tokens)).first) ∷ (pieces depth (drop at tokens)).others)
  pub order : AreInOrder 0 parts start
  pub begun : start ≤ at
  pub few : depth ≤ at

pub cut_start : (tokens : List Read) → CutTo tokens [] 0 0 0
cut_start tokens = record { cut = refl; order = omega arith; begun = omega arith; few = omega arith }

module _ (tokens : List Read) (parts : List Part) (start at depth : ℕ) (c : CutTo tokens parts start at depth) where
  -- an argument ends at a comma
  pub cut_comma : (read : Read) (more : List Part) → drop at tokens ≡ read ∷ drop (at + 1) tokens → (is_comma read.token.value && (depth == 0)) ≡ true
      → more ≡ parts ++ record { start = start; end = at } ∷ [] → CutTo tokens more (at + 1) (at + 1) depth
  cut_comma read more here ends is = record {
    cut = ends_piece tokens (drop (at + 1) tokens) (drop at tokens) read depth (lists_of tokens parts) (lists_of tokens more)
        (slice_range tokens start at) (slice_range tokens (at + 1) (at + 1)) c.cut here ends
        (ap (lists_of tokens) is ∙ map-append (list_of tokens) parts (record { start = start; end = at } ∷ [])) (between_none tokens (at + 1));
    order = rw is (in_order_push 0 start (at + 1) parts (record { start = start; end = at }) c.order (omega arith) c.begun (omega arith));
    begun = omega arith;
    few = omega (arith, c.few);
  }

  -- an argument goes on
  pub cut_token : (read : Read) → drop at tokens ≡ read ∷ drop (at + 1) tokens → (is_comma read.token.value && (depth == 0)) ≡ false
      → slice_range tokens start (at + 1) ≡ slice_range tokens start at ++ read ∷ [] → CutTo tokens parts start (at + 1) (nesting_after depth read.token.value)
  cut_token read here goes_on more = record {
    cut = grows_piece tokens (drop (at + 1) tokens) (drop at tokens) read depth (nesting_after depth read.token.value) (lists_of tokens parts)
        (slice_range tokens start at) (slice_range tokens start (at + 1)) c.cut here goes_on refl more;
    order = c.order;
    begun = omega (arith, c.begun);
    few = nesting_within depth at read.token.value c.few;
  }

  -- the last argument ends with the tokens
  pub cut_end : (more : List Part) → length tokens ≡ at → more ≡ parts ++ record { start = start; end = at } ∷ []
      → (lists_of tokens more ≡ arguments_of tokens) × AreInOrder 0 more (length tokens)
  cut_end more ended is =
      let last : Part = record { start = start; end = at } in
      let none : drop at tokens ≡ [] = drop_all at tokens (omega (arith, ended)) in (
        ap (lists_of tokens) is ∙ map-append (list_of tokens) parts (last ∷ [])
            ∙ ap (λ (piece : List Read). lists_of tokens parts ++ piece ∷ []) (sym (append-nil (slice_range tokens start at)))
            ∙ ap (λ (rest : List Read). lists_of tokens parts ++ ((slice_range tokens start at ++ (pieces depth rest).first) ∷ (pieces depth rest).others)) (sym none)
            ∙ sym c.cut,
        rw is (in_order_push 0 start (length tokens) parts last c.order (omega arith) c.begun (omega (arith, ended))),
      )
