-- The tokens can be known by their entries.
use Rattle.std.proofs.Common.{◌≡◌, ℕ, ◌+◌, ◌-◌, ◌==◌, List, [], ◌∷◌, ◌++◌, map, filter, false, refl, sym, ◌∙◌, ap, arith, cond, count_by, length}
use Rattle.std.proofs.lemmas.List.Sums.{sum_by-cons}
use Rattle.std.proofs.lemmas.Bool.{ne_eqb, eqb-true}
use Rattle.std.specs.Bool.{Decides}
use Rattle.pp_lexer.specs.Entry.{Entry, is_outermost}
use Rattle.pp_lexer.specs.Preorder.{deeper, leaf_of, inner, preorder}
use Rattle.std.specs.Cmp.Lexicographic.{pointwise, pointwise_decides}
use Rattle.std.proofs.lemmas.Bool.Decides.{same_from_decides, Decides-like}
use Rattle.pp_lexer.specs.contracts.token.TokenPartialEq.TheImpl.{eq-value as token_eq}
use Rattle.pp_lexer.specs.EntryEq.{entry_eq, entries_decide}
use Rattle.pp_lexer.proofs.values.EqualityLemmas.{token_decides}
use Rattle.pp_lexer.specs.declared.token.Token.{Token}
use Rattle.pp_lexer.specs.declared.token.TokenValue.{TokenValue}

-- the entries up to the next token of this level, one level up
children : List Entry → List Entry
children [] = []
children (e ∷ es) = cond (is_outermost e) [] (record e { depth = e.depth - 1 } ∷ children es)

-- the entries from the next token of this level on
siblings : List Entry → List Entry
siblings [] = []
siblings (e ∷ es) = cond (is_outermost e) (e ∷ es) (siblings es)

deeper-is_outermost : (e : Entry) → is_outermost (deeper e) ≡ false
deeper-is_outermost e = ne_eqb (e.depth + 1) 0 (λ zero. absurd (omega (arith, zero)))

back_up : (n : ℕ) → n + 1 - 1 ≡ n
back_up n = omega arith

children-preorder : (ts : List Token) → children (preorder ts) ≡ []
unfolding children
children-preorder [] = refl
children-preorder (t ∷ ts) = refl

siblings-preorder : (ts : List Token) → siblings (preorder ts) ≡ preorder ts
unfolding siblings
siblings-preorder [] = refl
siblings-preorder (t ∷ ts) = refl

children-inner : (es : List Entry) (ts : List Token) → children (map deeper es ++ preorder ts) ≡ es
unfolding children
children-inner [] ts = children-preorder ts
children-inner (e ∷ es) ts =
    rw (deeper-is_outermost e, children-inner es ts) (ap (λ n. record e { depth = n } ∷ es) (back_up e.depth))

siblings-inner : (es : List Entry) (ts : List Token) → siblings (map deeper es ++ preorder ts) ≡ preorder ts
unfolding siblings
siblings-inner [] ts = siblings-preorder ts
siblings-inner (e ∷ es) ts = rw (deeper-is_outermost e) (siblings-inner es ts)

-- a value is known by its leaf and the entries inside it
value_same : (v w : TokenValue) → leaf_of v ≡ leaf_of w → inner v ≡ inner w → v ≡ w
value_same v w h k = grind arith

-- the entry of a token itself
abbrev head_of : Token → Entry
head_of t = record { depth = 0; leaf = leaf_of t.value; location = t.location }

pub preorder_same : (ts us : List Token) → preorder ts ≡ preorder us → ts ≡ us
preorder_same [] [] e = refl
preorder_same [] (u ∷ us) e = cc
preorder_same (t ∷ ts) [] e = cc
preorder_same (t ∷ ts) (u ∷ us) e =
    let head : head_of t ≡ head_of u = cc in
    let rest : map deeper (inner t.value) ++ preorder ts ≡ map deeper (inner u.value) ++ preorder us = cc in
    let inside = sym (children-inner (inner t.value) ts) ∙ ap children rest ∙ children-inner (inner u.value) us in
    let after = sym (siblings-inner (inner t.value) ts) ∙ ap siblings rest ∙ siblings-inner (inner u.value) us in
    let value = value_same t.value u.value (ap (λ x. x.leaf) head) inside in
    let location = ap (λ x. x.location) head in
    let tokens = preorder_same ts us after in
    λ i. record { value = value i; location = location i } ∷ tokens i

-- the test of the tokens answers as that of their entries
pub tokens_answer : (ts us : List Token) → pointwise token_eq.it ts us ≡ pointwise entry_eq (preorder ts) (preorder us)
tokens_answer ts us =
    same_from_decides _ _
    (pointwise_decides token_decides ts us)
    (Decides-like _ (preorder_same ts us) (ap preorder) (entries_decide (preorder ts) (preorder us)))

-- the entries inside a token are no outermost ones
pub none_kept : (es : List Entry) (ts : List Token) → filter is_outermost (map deeper es ++ preorder ts) ≡ filter is_outermost (preorder ts)
none_kept [] ts = refl
none_kept (e ∷ es) ts = rw (deeper-is_outermost e) (none_kept es ts)

count_by-deeper : (e : Entry) (es : List Entry) → count_by is_outermost (deeper e ∷ es) ≡ count_by is_outermost es
count_by-deeper e es = grind arith

none_outermost : (es : List Entry) (ts : List Token) → count_by is_outermost (map deeper es ++ preorder ts) ≡ count_by is_outermost (preorder ts)
none_outermost [] ts = refl
none_outermost (e ∷ es) ts = count_by-deeper e (map deeper es ++ preorder ts) ∙ none_outermost es ts

-- the tokens of a list are its entries that lie in no other
pub count_by-preorder : (ts : List Token) → count_by is_outermost (preorder ts) ≡ length ts
count_by-preorder [] = refl
count_by-preorder (t ∷ ts) =
    let more = sum_by-cons (λ x. cond (is_outermost x) 1 0) (head_of t) (map deeper (inner t.value) ++ preorder ts) in
    omega (arith, more, none_outermost (inner t.value) ts, count_by-preorder ts)

pub preorder-empty : (ts : List Token) → Decides (length ts == 0) (preorder ts ≡ [])
preorder-empty [] = (λ _. refl, λ _. refl)
preorder-empty (t ∷ ts) = (λ h. absurd (omega (arith, eqb-true (length (t ∷ ts)) 0 h)), λ e. cc)
