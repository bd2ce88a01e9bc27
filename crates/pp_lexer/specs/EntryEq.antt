-- A test whether two lists of entries are equal.
use Rattle.std.specs.Prelude.{◌≡◌, Bool, true, false, ◌&&◌, ◌==◌, nat_eq, List, refl}
use Rattle.std.specs.Bool.{Decides}
use Rattle.std.specs.Ordering.{int_eq}
use Rattle.std.specs.Cmp.{IsEquivalence, decided}
use Rattle.std.specs.Cmp.Lexicographic.{pointwise, pointwise_decides, bytes_decides}
use Rattle.std.proofs.Common.{ap, rules}
use Rattle.std.proofs.lemmas.Bool.{false≢true}
use Rattle.std.proofs.lemmas.Bool.Decides.{Decides-and, Decides-like, Decides-eqb, Decides-int_eq}
use mathlib.Core.Bool.{beq}
use Rattle.pp_lexer.specs.Entry.{Entry, Leaf, ident, integer, float, punct, version, extension, pragma}
use Rattle.pp_lexer.specs.contracts.token.IntegerPartialEq.TheImpl.{eq-value as integer_eq}
use Rattle.pp_lexer.specs.contracts.token.LocationPartialEq.TheImpl.{eq-value as location_eq}
use Rattle.pp_lexer.specs.contracts.token.PunctPartialEq.TheImpl.{eq-value as punct_eq}
use Rattle.pp_lexer.specs.declared.token.Integer.{Integer}
use Rattle.pp_lexer.specs.declared.token.Location.{Location}
use Rattle.pp_lexer.specs.declared.token.Punct.{Punct}

-- the same kind, with the same fields
abbrev pub leaf_eq : Leaf → Leaf → Bool
leaf_eq (ident s) (ident t) = pointwise nat_eq s t
leaf_eq (integer a) (integer b) = integer_eq.it a b
leaf_eq (float s v) (float t w) = pointwise nat_eq s t && int_eq v w
leaf_eq (punct p) (punct q) = punct_eq.it p q
leaf_eq (version a b) (version c d) = beq a c && beq b d
leaf_eq (extension a) (extension b) = beq a b
leaf_eq pragma pragma = true
leaf_eq _ _ = false

-- the same depth, leaf and place
abbrev pub entry_eq : Entry → Entry → Bool
entry_eq a b = (a.depth == b.depth) && (leaf_eq a.leaf b.leaf && location_eq.it a.location b.location)

-- Each test holds exactly if the two are equal.

pub beq_decides : (a b : Bool) → Decides (beq a b) (a ≡ b)
beq_decides true true = (λ _. refl, λ _. refl)
beq_decides true false = (λ h. absurd (false≢true h), λ e. cc)
beq_decides false true = (λ h. absurd (false≢true h), λ e. cc)
beq_decides false false = (λ _. refl, λ _. refl)

pub integer_decides : (a b : Integer) → Decides (integer_eq.it a b) (a ≡ b)
integer_decides a b = search rules

pub punct_decides : (a b : Punct) → Decides (punct_eq.it a b) (a ≡ b)
punct_decides a b = search rules

pub location_decides : (a b : Location) → Decides (location_eq.it a b) (a ≡ b)
location_decides a b = search rules

leaf_decides : (a b : Leaf) → Decides (leaf_eq a b) (a ≡ b)
leaf_decides (ident s) (ident t) = Decides-like _ (ap ident) (λ e. cc) (bytes_decides s t)
leaf_decides (integer a) (integer b) = Decides-like _ (ap integer) (λ e. cc) (integer_decides a b)
leaf_decides (float s v) (float t w) =
    Decides-like _ (λ p i. float (p.0 i) (p.1 i)) (λ e. (cc, cc))
    (Decides-and _ _ (bytes_decides s t) (Decides-int_eq v w))
leaf_decides (punct p) (punct q) = Decides-like _ (ap punct) (λ e. cc) (punct_decides p q)
leaf_decides (version a b) (version c d) =
    Decides-like _ (λ p i. version (p.0 i) (p.1 i)) (λ e. (cc, cc))
    (Decides-and _ _ (beq_decides a c) (beq_decides b d))
leaf_decides (extension a) (extension b) = Decides-like _ (ap extension) (λ e. cc) (beq_decides a b)
leaf_decides pragma pragma = (λ _. refl, λ _. refl)
leaf_decides _ _ = (λ h. absurd (false≢true h), λ e. cc)

entry_decides : (a b : Entry) → Decides (entry_eq a b) (a ≡ b)
entry_decides a b =
    Decides-like _
    (λ p i. record { depth = p.0 i; leaf = p.1.0 i; location = p.1.1 i })
    (λ e. (ap (λ x. x.depth) e, (ap (λ x. x.leaf) e, ap (λ x. x.location) e)))
    (Decides-and _ _ (Decides-eqb a.depth b.depth)
    (Decides-and _ _ (leaf_decides a.leaf b.leaf) (location_decides a.location b.location)))

pub entries_decide : (xs ys : List Entry) → Decides (pointwise entry_eq xs ys) (xs ≡ ys)
entries_decide = pointwise_decides entry_decides

pub entries_equiv : IsEquivalence (pointwise entry_eq)
entries_equiv = decided (pointwise entry_eq) entries_decide
