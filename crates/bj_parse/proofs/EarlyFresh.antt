-- With annotations and modifiers that stand, a head begins, and so does a member.
use Rattle.std.proofs.Common.{◌≡◌, ℕ, suc, ◌<◌, ◌≤◌, List, [], ◌∷◌, refl, arith}
use Rattle.bj_token.specs.declared.token.Token.{Token}
use Rattle.bj_tree.specs.declared.class.Modifier.{Modifier}
use Rattle.bj_tree.specs.declared.class.AnnotationTree.{AnnotationTree}
use Rattle.bj_tree.specs.declared.member.MemberTree.{MemberTree}
use Rattle.bj_grammar.specs.declared.terminal.Terminal.TheVariants as t
use Rattle.bj_grammar.specs.Reader.{Text, Found}
use Rattle.bj_grammar.specs.Given.{text_of, place_of}
use Rattle.bj_stmt.proofs.Ahead.{goes_on}
use Rattle.bj_class.specs.declared.head.ClassHead.{ClassHead}
use Rattle.bj_class.specs.Grammar as g
use Rattle.bj_class.specs.Grammar.{Annotations, ModifierList, Head, Member}
use Rattle.bj_class.specs.Reading as r
use Rattle.bj_class.proofs.NoteLaws.{annotations_laws, modifiers_laws}
use Rattle.bj_parse.specs.declared.annotations.AnnotationsEnd.TheVariants as ends
use Rattle.bj_parse.specs.Early.{annotations_end}
use Rattle.bj_parse.proofs.EarlyLaws.{Marks, most_of}

-- The text up to q, where marks end, and then these terminals.
module _ (tokens : List Token) (marks : Marks tokens) (n i q : ℕ) (ms : List Modifier)
    (behind : annotations_end (place_of tokens) (most_of tokens) (most_of tokens) (text_of tokens) n ≡ ends.Behind i)
    (found : r.modifiers (place_of tokens) (most_of tokens) (text_of tokens) i ≡ Found ms q) where
  listed : ModifierList (place_of tokens) (text_of tokens) ms i q
  listed = (modifiers_laws (place_of tokens) (most_of tokens)).sound (text_of tokens) i ms q found

  kept_notes : (u : Text) → ((x : ℕ) → x < q → u x ≡ text_of tokens x) → {notes : List AnnotationTree} → Annotations (place_of tokens) (text_of tokens) notes n i → Annotations (place_of tokens) u notes n i
  kept_notes u same {notes} d =
      let low : i ≤ q = (modifiers_laws (place_of tokens) (most_of tokens)).shape.forward (text_of tokens) ms i q listed in
      (annotations_laws (place_of tokens) (most_of tokens)).shape.frame (text_of tokens) u notes n i (λ x h. same x (omega arith)) d

  kept_modifiers : (u : Text) → ((x : ℕ) → x < q → u x ≡ text_of tokens x) → ModifierList (place_of tokens) u ms i q
  kept_modifiers u same = (modifiers_laws (place_of tokens) (most_of tokens)).shape.frame (text_of tokens) u ms i q same listed

  -- a class of no body
  pub fresh_head : (u : Text) × (a : ClassHead) × (j : ℕ) × ((x : ℕ) → x < q → u x ≡ text_of tokens x) × Head (place_of tokens) u a n j
  fresh_head =
      let notes = marks.found_behind n i behind in
      let w = goes_on (text_of tokens) q (t.Class ∷ t.Word ∷ t.LeftBrace ∷ []) (refl, (refl, (refl, tt))) in
      let row = w.2.1 in
      (w.0, _, suc (suc (suc q)), w.1, g.class_head (kept_notes w.0 w.1 notes.1) (kept_modifiers w.0 w.1) row.kind row.rest.kind (g.no_super refl refl) (g.no_names refl refl) row.rest.rest.kind refl refl)

  -- a method without parameters and without a body
  pub fresh_member : (u : Text) × (a : MemberTree) × (j : ℕ) × ((x : ℕ) → x < q → u x ≡ text_of tokens x) × Member (place_of tokens) u a n j
  fresh_member =
      let notes = marks.found_behind n i behind in
      let w = goes_on (text_of tokens) q (t.Void ∷ t.Word ∷ t.LeftParen ∷ t.RightParen ∷ t.Semicolon ∷ []) (refl, (refl, (refl, (refl, (refl, tt))))) in
      let row = w.2.1 in (
        w.0,
        _,
        suc (suc (suc (suc (suc q)))),
        w.1,
        g.method (kept_notes w.0 w.1 notes.1) (kept_modifiers w.0 w.1) (g.void row.kind refl refl) row.rest.kind
            (g.no_formals row.rest.rest.kind row.rest.rest.rest.kind refl refl) (g.no_names refl refl) (g.no_body row.rest.rest.rest.rest.kind refl refl) refl,
      )
