-- What the modifiers of a member that goes wrong may belong to, as the tokens of a file tell.
use Rattle.std.proofs.Common.{◌≡◌, ℕ, suc, ◌+◌, ◌<◌, ◌≤◌, inl, inr, Bool, true, false, cond, List, length, None, refl, arith}
use Rattle.std.specs.Prelude.{◌&&◌, nat_lt}
use Rattle.std.proofs.lemmas.Bool.{cases_lt}
use Rattle.bj_base.specs.declared.span.Span.{Span}
use Rattle.bj_token.specs.declared.token.Token.{Token}
use Rattle.bj_tree.specs.declared.class.AnnotationTree.{AnnotationTree}
use Rattle.bj_tree.specs.declared.class.ClassKind.{ClassKind}
use Rattle.bj_tree.specs.declared.class.Modifier.{Modifier}
use Rattle.bj_rules.specs.Rules.{annotations_misfit}
use Rattle.bj_grammar.specs.declared.terminal.Terminal.{Terminal}
use Rattle.bj_grammar.specs.declared.terminal.Terminal.TheVariants as t
use Rattle.bj_grammar.specs.Terminal.{terminal, same_terminal, among}
use Rattle.bj_grammar.specs.Reader.{Answer, Found, Wrong, Over}
use Rattle.bj_grammar.specs.Given.{text_of, place_of}
use Rattle.bj_grammar.proofs.Laws.{Outcome}
use Rattle.bj_grammar.proofs.TextLemmas.{end_other}
use Rattle.bj_expr.specs.Grammar.{type_words}
use Rattle.bj_expr.specs.Reading.{type_at}
use Rattle.bj_stmt.proofs.Expressions.{Given, Never}
use Rattle.bj_stmt.proofs.Leftmost.{each}
use Rattle.bj_class.specs.Grammar.{Annotations, ModifierList}
use Rattle.bj_class.specs.Reading as r
use Rattle.bj_class.specs.Reading.{is_static_block}
use Rattle.bj_class.proofs.MemberTokens.{modifiers_no_note, type_is_core}
use Rattle.bj_class.proofs.NoteLaws.{annotations_laws, modifiers_laws}
use Rattle.bj_parse.specs.declared.annotations.AnnotationsEnd.TheVariants as ends
use Rattle.bj_parse.specs.Early.{annotations_end, member_places}
use Rattle.bj_parse.specs.Marks.{member_place}
use Rattle.bj_parse.proofs.Ends.{over_in}
use Rattle.bj_parse.proofs.Owners.{OwnerLaws}
use Rattle.bj_parse.proofs.EarlyNeeded.{MemberRel}
use Rattle.bj_parse.proofs.MemberLimits.{unlimited}
use Rattle.bj_parse.proofs.MemberOwners as member
use Rattle.bj_parse.proofs.MemberOwners.{Unlimited}
use Rattle.bj_parse.proofs.SameMarks.{same_marks, found_behind}

type_no_other : (x : Terminal) → among type_words x ≡ true → x ≡ t.Other → ⊥
type_no_other = each (λ x. x ≡ t.Other → ⊥) type_words ((λ e. absurd (cc)), ((λ e. absurd (cc)), ((λ e. absurd (cc)), ((λ e. absurd (cc)), ((λ e. absurd (cc)), tt)))))

module _ (tokens : List Token) (room : ℕ) (given : Given (place_of tokens) (suc (length tokens))) (kind : ClassKind) (n k : ℕ)
    (wrong : r.member (place_of tokens) (suc (length tokens)) room (text_of tokens) n ≡ Wrong k) (no_block : (is_static_block (text_of tokens) n && nat_lt (suc n) k) ≡ false) where
  -- a type that passes a limit begins with a word of a type
  type_begins : (q m : ℕ) (at : Span) → type_at (place_of tokens) (suc (length tokens)) (text_of tokens) q ≡ Over m at → among type_words (terminal (text_of tokens q)) ≡ true
  unfolding type_at
  type_begins q m at over = of _ (among type_words (terminal (text_of tokens q))) refl over
    where
      of : {A : Type 0} (x : Answer A) (b : Bool) → among type_words (terminal (text_of tokens q)) ≡ b → cond b x (Wrong q) ≡ Over m at → among type_words (terminal (text_of tokens q)) ≡ true
      of x true is h = is
      of x false is h = absurd (cc)

  no_limit : (i q : ℕ) (ms : List Modifier) → annotations_end (place_of tokens) (suc (length tokens)) (suc (length tokens)) (text_of tokens) n ≡ ends.Behind i
      → r.modifiers (place_of tokens) (suc (length tokens)) (text_of tokens) i ≡ Found ms q → n < q → Unlimited (place_of tokens) (suc (length tokens)) (text_of tokens) q k
  no_limit i q ms behind read some below void called m at over =
      unlimited (place_of tokens) (suc (length tokens)) room (text_of tokens) n i q k w.0 ms annotated read some no_block wrong below void called m at over
    where
      w : (notes : List AnnotationTree) × Annotations (place_of tokens) (text_of tokens) notes n i × (annotations_misfit notes ≡ None) × (same_terminal (terminal (text_of tokens i)) t.At ≡ false)
      w = found_behind tokens n i behind

      modified : ModifierList (place_of tokens) (text_of tokens) ms i q
      modified = (modifiers_laws (place_of tokens) (suc (length tokens))).sound (text_of tokens) i ms q read

      is_type : among type_words (terminal (text_of tokens q)) ≡ true
      is_type = type_begins q m at over

      inside : q < length tokens
      inside = elim (cases_lt q (length tokens)) [ inl h ↦ h | inr h ↦ absurd (type_no_other (terminal (text_of tokens q)) is_type (end_other tokens q h)) ]

      annotated : r.annotations (place_of tokens) (suc (length tokens)) (text_of tokens) n ≡ Found w.0 i
      annotated = of ((annotations_laws (place_of tokens) (suc (length tokens))).complete (text_of tokens) n w.0 i w.1 (modifiers_no_note (place_of tokens) (text_of tokens) modified (type_is_core (terminal (text_of tokens q)) is_type)))
        where
          of : Outcome (suc (length tokens)) Never (r.annotations (place_of tokens) (suc (length tokens)) (text_of tokens) n) w.0 n i → r.annotations (place_of tokens) (suc (length tokens)) (text_of tokens) n ≡ Found w.0 i
          of (inl e) = e
          of (inr x) = elim (x.why) [ inl h ↦ absurd h | inr h ↦ absurd ((let l : suc (length tokens) + n ≤ x.place = h in let m : x.place ≤ length tokens = over_in (annotations_laws (place_of tokens) (suc (length tokens))) tokens n (omega (arith, some, inside)) x.place x.node x.is in omega (arith, l, m))) ]

  pub member_owned : OwnerLaws (MemberRel (place_of tokens)) (member_place kind) (place_of tokens) (suc (length tokens)) (text_of tokens) n k (λ q. member_places (place_of tokens) (suc (length tokens)) kind (text_of tokens) q k)
  member_owned = record {
    complete = λ i q ms behind read owner may.
        let w = found_behind tokens n i behind in
        member.complete (place_of tokens) (suc (length tokens)) given kind (text_of tokens) n i q k w.0 ms w.1 ((modifiers_laws (place_of tokens) (suc (length tokens))).sound (text_of tokens) i ms q read)
        (same_marks tokens n i q k ms behind read) owner may;
    sound = λ i q ms behind read some begun owner one.
        let w = found_behind tokens n i behind in
        member.sound (place_of tokens) (suc (length tokens)) given kind (text_of tokens) n i q k w.0 ms w.1 ((modifiers_laws (place_of tokens) (suc (length tokens))).sound (text_of tokens) i ms q read)
        (same_marks tokens n i q k ms behind read) (no_limit i q ms behind read some) some no_block begun owner one;
  }
