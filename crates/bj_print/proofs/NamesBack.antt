-- Printed names, and words that may be missing, are read again.
use Rattle.std.proofs.Common.{◌≡◌, ℕ, suc, Bool, if◌then◌else◌, List, [], ◌∷◌, ◌++◌, Option, Some, None, refl, sym, ap, ◌∙◌, subst}
use Rattle.std.specs.Prelude.{codes, option_map}
use Rattle.bj_base.specs.declared.span.Span.{Span}
use Rattle.bj_token.specs.declared.token.TokenKind.TheVariants as kinds
use Rattle.bj_token.specs.declared.token.Token.{Token}
use Rattle.bj_expr_tree.specs.declared.types.NamedPlace.{NamedPlace}
use Rattle.bj_grammar.specs.declared.terminal.Terminal.{Terminal}
use Rattle.bj_grammar.specs.declared.terminal.Terminal.TheVariants as marks
use Rattle.bj_grammar.specs.Terminal.{terminal, terminal_by}
use Rattle.bj_grammar.specs.Reader.{Text}
use Rattle.bj_stmt.specs.Grammar.{named}
use Rattle.bj_class.specs.Grammar as g
use Rattle.bj_class.specs.Grammar.{MaybeStatic, NamesBy, MaybeNames, MaybeAll, MaybeSuper}
use Rattle.bj_writer.specs.Pieces.{Piece, tokens_of}
use Rattle.bj_layout.specs.Exprs.{comma, sign}
use Rattle.bj_layout.specs.Classes.{name_piece, name_list, maybe_names, maybe_super}
use Rattle.bj_print.specs.Same.{nowhere, unplaced_name}
use Rattle.bj_print.proofs.Holds.{Back, spelling_of, text_is}
use Rattle.bj_print.proofs.ExprTokens.{worded, keyed, signed}
use Rattle.bj_print.proofs.Again.{Reads, reads_end, reads_mark, reads_last, reads_as, respelled}
use Rattle.bj_print.proofs.RowBack.{SameBy, SameAll, HasOne, has_only, has_more, FoundOne, FoundParted, one_part, more_parts}

-- a word, and the name that it is
pub record NameAt (place : ℕ → Span) (s : Text) (a : NamedPlace) (i j : ℕ) : Type 0 where
  pub word : terminal (s i) ≡ marks.Word
  pub is : a ≡ named (place i) (s i)
  pub end : j ≡ suc i

-- names that are spelled the same are the same but for places
pub same_name_text : (at at2 : Span) (x y : Token) → spelling_of y ≡ worded x.text → SameBy unplaced_name (named at2 y) (named at x)
same_name_text at at2 x y e = ap (λ (units : List ℕ). let n : NamedPlace = record { at = nowhere; name = units } in n) (text_is y kinds.Word x.text e)

module _ (other : ℕ → Span) (t : Text) where
  name_found : (at : Span) (x : Token) → FoundOne t unplaced_name name_piece (NameAt other t) (named at x)
  name_found at x = reads_as (reads_last (worded x.text)) (λ k j f. record {
    tree = named (other k) (t k);
    stands = record { word = f.is; is = refl; end = f.rest };
    same = same_name_text at (other k) x (t k) f.token;
  })

-- ---- names with a sign between them

pub names_some : {sign : Terminal} {place : ℕ → Span} {s : Text} {a : List NamedPlace} {i j : ℕ} → NamesBy sign place s a i j → HasOne a
names_some (g.first_name o is at) = has_only is
names_some {place = place} {s = s} (g.next_name {n = n} d o o2 is at) = has_more (named (place (suc n)) (s (suc n))) (names_some d) is

module _ (which : Terminal) (between : List Piece) (units : List ℕ) (spelt : tokens_of between ≡ signed units ∷ []) (means : terminal_by kinds.Sign units ≡ which) (place : ℕ → Span) (s : Text) (other : ℕ → Span) (t : Text) where
  names_by_again : {a : List NamedPlace} {i j : ℕ} → NamesBy which place s a i j → FoundParted t unplaced_name between name_piece (NamesBy which other t) a
  names_by_again {i = i} (g.first_name o is at) = one_part t unplaced_name name_piece (NameAt other t) (NamesBy which other t) between units spelt
      (λ y k j d. g.first_name d.word (ap (λ (z : NamedPlace). z ∷ []) d.is) d.end) (name_found other t (place i) (s i)) is
  names_by_again (g.next_name {n = n} d o o2 is at) = more_parts t unplaced_name name_piece (NameAt other t) (NamesBy which other t) between units spelt
      (λ c y k m j ns o d. g.next_name ns (o ∙ means) d.word (ap (λ (z : NamedPlace). c ++ z ∷ []) d.is) d.end)
      (names_some d) (names_by_again d) (name_found other t (place (suc n)) (s (suc n))) is

module _ (place : ℕ → Span) (s : Text) (other : ℕ → Span) (t : Text) where
  pub names_again : {a : List NamedPlace} {i j : ℕ} → NamesBy marks.Comma place s a i j → FoundParted t unplaced_name comma name_piece (NamesBy marks.Comma other t) a
  names_again = names_by_again marks.Comma comma (codes ",") refl refl place s other t

  pub points_again : {a : List NamedPlace} {i j : ℕ} → NamesBy marks.Dot place s a i j → FoundParted t unplaced_name (sign (codes ".") ∷ []) name_piece (NamesBy marks.Dot other t) a
  points_again = names_by_again marks.Dot (sign (codes ".") ∷ []) (codes ".") refl refl place s other t

-- ---- names behind a keyword

-- what is printed of names that may be missing
abbrev pub FoundNames : Text → List ℕ → (List NamedPlace → ℕ → ℕ → Type 0) → List NamedPlace → Type 0
FoundNames t units L a = Reads t (tokens_of (maybe_names units a)) (Back L (SameAll unplaced_name) a)

some_names_tokens : (units : List ℕ) (a : List NamedPlace) → HasOne a → tokens_of (maybe_names units a) ≡ keyed units ∷ tokens_of (name_list a)
some_names_tokens units a f = subst (λ (a : List NamedPlace). tokens_of (maybe_names units a) ≡ keyed units ∷ tokens_of (name_list a)) (sym f.is) refl

module _ (place : ℕ → Span) (s : Text) (other : ℕ → Span) (t : Text) where
  pub maybe_names_again : {which : Terminal} {a : List NamedPlace} {i j : ℕ} (units : List ℕ) → terminal_by kinds.Keyword units ≡ which → MaybeNames which place s a i j → FoundNames t units (MaybeNames which other t) a
  maybe_names_again {which} units means (g.no_names is at) = subst (FoundNames t units (MaybeNames which other t)) (sym is) (reads_as reads_end (λ k j f. record { tree = []; stands = g.no_names refl f; same = refl }))
  maybe_names_again {which} {a} units means (g.names o d) = respelled (some_names_tokens units a (names_some d)) (reads_as (reads_mark (keyed units) (names_again place s other t d)) (λ k j f. record {
    tree = f.rest.tree;
    stands = g.names (f.is ∙ means) f.rest.stands;
    same = f.rest.same;
  }))

-- ---- the class that is extended

abbrev pub FoundSuper : Text → (ℕ → Span) → Option NamedPlace → Type 0
FoundSuper t other a = Reads t (tokens_of (maybe_super a)) (Back (MaybeSuper other t) (λ a b. option_map unplaced_name a ≡ option_map unplaced_name b) a)

pub super_again : {place : ℕ → Span} {s : Text} (other : ℕ → Span) (t : Text) {a : Option NamedPlace} {i j : ℕ} → MaybeSuper place s a i j → FoundSuper t other a
super_again other t (g.no_super is at) = subst (FoundSuper t other) (sym is) (reads_as reads_end (λ k j f. record { tree = None; stands = g.no_super refl f; same = refl }))
super_again {place} {s} other t {i = i} (g.super o o2 is at) = subst (FoundSuper t other) (sym is) (reads_as (reads_mark (keyed (codes "extends")) (reads_last (worded (s (suc i)).text))) (λ k j f. record {
  tree = Some (named (other (suc k)) (t (suc k)));
  stands = g.super f.is f.rest.is refl f.rest.rest;
  same = ap (λ (z : NamedPlace). Some z) (same_name_text (place (suc i)) (other (suc k)) (s (suc i)) (t (suc k)) f.rest.token);
}))

-- ---- words that may be missing

abbrev FoundWord : Text → List Piece → (Bool → ℕ → ℕ → Type 0) → Bool → Type 0
FoundWord t p D b = Reads t (tokens_of (if b then p else [])) (D b)

pub static_again : {s : Text} {b : Bool} {i j : ℕ} (t : Text) (p : List Piece) → tokens_of p ≡ keyed (codes "static") ∷ [] → MaybeStatic s b i j → Reads t (tokens_of (if b then p else [])) (MaybeStatic t b)
static_again t p spelt (g.not_static is at) = subst (FoundWord t p (MaybeStatic t)) (sym is) (reads_as reads_end (λ k j f. g.not_static refl f))
static_again t p spelt (g.static o is at) = subst (FoundWord t p (MaybeStatic t)) (sym is)
    (respelled spelt (reads_as (reads_last (keyed (codes "static"))) (λ k j f. g.static f.is refl f.rest)))

pub all_again : {s : Text} {b : Bool} {i j : ℕ} (t : Text) → MaybeAll s b i j → Reads t (tokens_of (if b then sign (codes ".") ∷ sign (codes "*") ∷ [] else [])) (MaybeAll t b)
all_again t (g.not_all is at) = subst (FoundWord t (sign (codes ".") ∷ sign (codes "*") ∷ []) (MaybeAll t)) (sym is) (reads_as reads_end (λ k j f. g.not_all refl f))
all_again t (g.all o o2 is at) = subst (FoundWord t (sign (codes ".") ∷ sign (codes "*") ∷ []) (MaybeAll t)) (sym is)
    (reads_as (reads_mark (signed (codes ".")) (reads_last (signed (codes "*")))) (λ k j f. g.all f.is f.rest.is refl f.rest.rest))
