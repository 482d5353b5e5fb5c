-- The readers of primary expressions.
use Rattle.std.proofs.Common.{◌≡◌, ℕ, suc, inl, inr, true, false, refl, ap, ◌∙◌, subst, List}
use Rattle.bj_base.specs.declared.span.Span.{Span}
use Rattle.bj_expr_tree.specs.declared.expr.ExprTree.{ExprTree}
use Rattle.bj_expr_tree.specs.declared.expr.ExprTree.TheVariants as tree
use Rattle.bj_expr.specs.declared.bounds.Bounds.{Bounds}
use Rattle.bj_expr.specs.declared.part.Part.{Part}
use Rattle.bj_expr.specs.declared.part.Part.TheVariants as part
use Rattle.bj_grammar.specs.declared.terminal.Terminal.TheVariants as t
use Rattle.bj_grammar.specs.Terminal.{terminal, same_terminal, among}
use Rattle.bj_grammar.specs.Reader.{Text, Parser, ◌>>=◌, pure, choose}
use Rattle.bj_expr.specs.Grammar as g
use Rattle.bj_expr.specs.Grammar.{literal_words, literal_kind, Expression, Args, Primary}
use Rattle.bj_expr.specs.Reading as r
use Rattle.bj_expr.specs.Reading.{is, begins_plain}
use Rattle.bj_grammar.proofs.Laws.{Rel, Laws, Then, Same, Word, Operator, Either, pure_laws, is_kind, seq, alt, tok, op, start, renamed}
use Rattle.bj_expr.proofs.Facts.{other_way, stops_expression, tokens_of}
use Rattle.bj_expr.proofs.Tall as tall
use Rattle.bj_expr.proofs.Tall.{TallList}
use Rattle.bj_expr.proofs.LawLemmas.{Tall, After, PartRel, AfterPart, is_not, not_among, closer, is_closer}
use Rattle.bj_expr.proofs.ArgumentLaws.{Arguments, arguments_laws}
use Rattle.bj_expr.proofs.CreationLaws.{AfterPrimary, CreationRel, creation_laws, to_creation, from_create, from_array, from_valued}

pub plain_left_paren : among begins_plain t.LeftParen ≡ true
unfolding same_terminal
plain_left_paren = refl

primary_not : (same_terminal t.Word t.New ≡ false) × (same_terminal t.Word t.Super ≡ false) × (same_terminal t.Word t.LeftParen ≡ false) × (same_terminal t.Word t.This ≡ false) × (among literal_words t.Word ≡ false)
    × (same_terminal t.New t.Super ≡ false) × (same_terminal t.New t.LeftParen ≡ false) × (same_terminal t.New t.This ≡ false) × (among literal_words t.New ≡ false)
    × (same_terminal t.Super t.LeftParen ≡ false) × (same_terminal t.Super t.This ≡ false) × (among literal_words t.Super ≡ false)
    × (same_terminal t.LeftParen t.This ≡ false) × (among literal_words t.LeftParen ≡ false) × (among literal_words t.This ≡ false)
unfolding same_terminal
primary_not = (refl, refl, refl, refl, refl, refl, refl, refl, refl, refl, refl, refl, refl, refl, refl)

literal_one : (among literal_words t.Number ≡ true) × (among literal_words t.Other ≡ false)
unfolding same_terminal
literal_one = (refl, refl)

module _ (place : ℕ → Span) (bounds : Bounds) (n : ℕ) (nested : Part → Parser ExprTree)
    (u : (x : Part) → Laws bounds.most (nested x) (PartRel place x) (AfterPart x) (Tall n)) where
  whole : Laws bounds.most (nested part.Expression) (λ s a i j. Expression place s a i j) (After stops_expression) (Tall n)
  whole = u part.Expression

  abbrev Parens : Rel (List ExprTree)
  Parens = Arguments place bounds n nested u

  abbrev pub NamedRel : (List ExprTree → ExprTree) → ExprTree → Rel ExprTree
  NamedRel f b = Either (Then Parens (λ all. Same (f all))) (Same b)

  -- a name, or a call where a parenthesis comes next
  choice_laws : (f : List ExprTree → ExprTree) (b : ExprTree) → ((at : Span) (all : List ExprTree) (c : ExprTree) → c ≡ f all → TallList n at all → Tall (suc n) at c)
      → Laws bounds.most (choose (is t.LeftParen) (r.arguments place bounds nested >>= λ all. pure (f all)) (pure b)) (NamedRel f b) AfterPrimary (Tall (suc n))
  choice_laws f b high = alt (is t.LeftParen)
      (seq (arguments_laws place bounds n nested u (λ _ _. Unit {0})) (λ all. pure_laws bounds.most (f all) AfterPrimary (Tall (suc n)))
      (λ s all m c j d last. tt) (λ s all m c j d at h. high at all c d.tree h))
      (pure_laws bounds.most b AfterPrimary (Tall (suc n)))
      (λ s a i j d last. is_kind _ _ d.first.kind)
      (λ s a i j d last. other_way (among begins_plain) (terminal (s i)) t.LeftParen plain_left_paren (subst (λ (m : ℕ). among begins_plain (terminal (s m)) ≡ false) d.at last.0))

  abbrev LiteralRel : ℕ → Rel ExprTree
  LiteralRel i = Operator (among literal_words) (λ v. Same (tree.Literal (place i) (literal_kind (terminal v)) v.text))

  abbrev ParenRel : ℕ → Rel ExprTree
  ParenRel i = Word t.LeftParen (λ _. Then (λ s a i j. Expression place s a i j) (λ x. Word t.RightParen (λ _. Same (tree.Paren (place i) x))))

  abbrev SuperRel : ℕ → Rel ExprTree
  SuperRel i = Word t.Super (λ _. Word t.Dot (λ _. Word t.Word (λ v. NamedRel (tree.SuperCall (place i) v) (tree.SuperField (place i) v))))

  abbrev NameRel : ℕ → Rel ExprTree
  NameRel i = Word t.Word (λ v. NamedRel (tree.Call (place i) v) (tree.Name (place i) v))

  abbrev ThisRel : ℕ → Rel ExprTree
  ThisRel i = Word t.This (λ _. Same (tree.This (place i)))

  abbrev PrimaryRel : ℕ → Rel ExprTree
  PrimaryRel i = Either (LiteralRel i) (Either (ThisRel i) (Either (ParenRel i) (Either (SuperRel i) (Either (CreationRel place bounds n nested u i) (NameRel i)))))

  to_primary : (s : Text) (a : ExprTree) (i j : ℕ) → PrimaryRel i s a i j → Primary place s a i j
  to_primary s a i j (inl d) = g.literal d.kind d.rest.tree d.rest.at
  to_primary s a i j (inr (inl d)) = g.this d.kind d.rest.tree d.rest.at
  to_primary s a i j (inr (inr (inl d))) = g.paren d.kind d.rest.first d.rest.rest.kind d.rest.rest.rest.tree d.rest.rest.rest.at
  to_primary s a i j (inr (inr (inr (inl d)))) = elim d.rest.rest.rest [
    | inl c ↦ (let w = c.first.rest in let e = c.rest.at ∙ w.rest.rest.at in
        g.super_call d.kind d.rest.kind d.rest.rest.kind c.first.kind w.first w.rest.kind (c.rest.tree ∙ ap (tree.SuperCall (place i) (s (suc (suc i))).text) w.rest.rest.tree) e)
    | inr c ↦ g.super_field d.kind d.rest.kind d.rest.rest.kind c.tree c.at
  ]
  to_primary s a i j (inr (inr (inr (inr (inl d))))) = to_creation place bounds n nested u s a i j d
  to_primary s a i j (inr (inr (inr (inr (inr d))))) = elim d.rest [
    | inl c ↦ (let w = c.first.rest in g.call d.kind c.first.kind w.first w.rest.kind (c.rest.tree ∙ ap (tree.Call (place i) (s i).text) w.rest.rest.tree) (c.rest.at ∙ w.rest.rest.at))
    | inr c ↦ g.name d.kind c.tree c.at
  ]

  pub called : (s : Text) (f : List ExprTree → ExprTree) (b a : ExprTree) (all : List ExprTree) (i m j : ℕ) → terminal (s i) ≡ t.LeftParen → Args place s all (suc i) m → terminal (s m) ≡ t.RightParen → a ≡ f all → j ≡ suc m
      → NamedRel f b s a i j
  called s f b a all i m j o d o2 e at = inl (record {
    part = all;
    at = suc m;
    first = record { kind = o; rest = record { part = all; at = m; first = d; rest = record { kind = o2; rest = record { tree = refl; at = refl } } } };
    rest = record { tree = e; at = at };
  })

  from_primary : (s : Text) {a : ExprTree} {i j : ℕ} → Primary place s a i j → PrimaryRel i s a i j
  from_primary s (g.literal o e at) = inl (record { kind = o; rest = record { tree = e; at = at } })
  from_primary s (g.this o e at) = inr (inl (record { kind = o; rest = record { tree = e; at = at } }))
  from_primary s (g.paren o d o2 e at) = inr (inr (inl (record { kind = o; rest = record { part = _; at = _; first = d; rest = record { kind = o2; rest = record { tree = e; at = at } } } })))
  from_primary s {a} {i} {j} (g.super_call {args} {m} o o2 o3 o4 d o5 e at) =
      inr (inr (inr (inl (record {
        kind = o;
        rest = record {
          kind = o2;
          rest = record {
            kind = o3;
            rest = called s (tree.SuperCall (place i) (s (suc (suc i))).text) (tree.SuperField (place i) (s (suc (suc i))).text) a args (suc (suc (suc i))) m j o4 d o5 e at;
          };
        };
      }))))
  from_primary s (g.super_field o o2 o3 e at) = inr (inr (inr (inl (record { kind = o; rest = record { kind = o2; rest = record { kind = o3; rest = inr (record { tree = e; at = at }) } } }))))
  from_primary s {a} {i} {j} (g.create {args} {m} o o2 o3 d o4 e at) = inr (inr (inr (inr (inl (from_create place bounds n nested u s a args i m j o o2 o3 d o4 e at)))))
  from_primary s {a} {i} {j} (g.new_array {sizes} {n = k} {m} o o2 d p e) = inr (inr (inr (inr (inl (from_array place bounds n nested u s a sizes k i m j o o2 d p e)))))
  from_primary s {a} {i} {j} (g.new_values {values} {n = k} {m} o o2 p d e) = inr (inr (inr (inr (inl (from_valued place bounds n nested u s a values k i m j o o2 p d e)))))
  from_primary s {a} {i} {j} (g.call {args} {m} o o2 d o3 e at) =
      inr (inr (inr (inr (inr (record { kind = o; rest = called s (tree.Call (place i) (s i).text) (tree.Name (place i) (s i).text) a args (suc i) m j o2 d o3 e at })))))
  from_primary s (g.name o e at) = inr (inr (inr (inr (inr (record { kind = o; rest = inr (record { tree = e; at = at }) })))))

  pub primary_laws : Laws bounds.most (r.primary place bounds nested) (λ s a i j. Primary place s a i j) AfterPrimary (Tall (suc n))
  unfolding r.primary r.literal r.parenthesized r.by_super r.by_name r.of_super r.named
  primary_laws = renamed (λ s a i j. Primary place s a i j) AfterPrimary
      (start {D = PrimaryRel} (λ i. alt (among literal_words)
      (op {Q = λ v. Same (tree.Literal (place i) (literal_kind (terminal v)) v.text)} (among literal_words) t.Number refl literal_one.0 (tokens_of literal_words literal_one.1)
      (λ v. pure_laws bounds.most (tree.Literal (place i) (literal_kind (terminal v)) v.text) AfterPrimary (Tall (suc n))))
      (alt (is t.This) (tok t.This refl (λ _. pure_laws bounds.most (tree.This (place i)) AfterPrimary (Tall (suc n))))
      (alt (is t.LeftParen)
      (tok t.LeftParen refl (λ _. seq whole (λ x. tok t.RightParen refl (λ _. pure_laws bounds.most (tree.Paren (place i) x) AfterPrimary (Tall (suc n))))
      (λ s x m b j d last. closer (terminal (s m)) t.RightParen d.kind is_closer.0) (λ s x m b j d at h. tall.tall_paren_inner n (place i) x b d.rest.tree h)))
      (alt (is t.Super)
      (tok t.Super refl (λ _. tok t.Dot refl (λ _. tok {Q = λ v. NamedRel (tree.SuperCall (place i) v) (tree.SuperField (place i) v)} t.Word refl
      (λ v. choice_laws (tree.SuperCall (place i) v) (tree.SuperField (place i) v) (λ at all c e h. tall.tall_supercall_args n (place i) v all c e h)))))
      (alt (is t.New)
      (creation_laws place bounds n nested u i)
      (tok {Q = λ v. NamedRel (tree.Call (place i) v) (tree.Name (place i) v)} t.Word refl
      (λ v. choice_laws (tree.Call (place i) v) (tree.Name (place i) v) (λ at all c e h. tall.tall_call_args n (place i) v all c e h)))
      (λ s a m j d last. is_kind _ _ d.kind)
      (λ s a m j d last. is_not _ _ t.New d.kind primary_not.0))
      (λ s a m j d last. is_kind _ _ d.kind)
      (λ s a m j d last. elim d [ inl x ↦ is_not _ _ t.Super x.kind primary_not.5 | inr x ↦ is_not _ _ t.Super x.kind primary_not.1 ]))
      (λ s a m j d last. is_kind _ _ d.kind)
      (λ s a m j d last. elim d [ inl x ↦ is_not _ _ t.LeftParen x.kind primary_not.9 | inr y ↦ elim y [ inl x ↦ is_not _ _ t.LeftParen x.kind primary_not.6 | inr x ↦ is_not _ _ t.LeftParen x.kind primary_not.2 ] ]))
      (λ s a m j d last. is_kind _ _ d.kind)
      (λ s a m j d last. elim d [
        | inl x ↦ is_not _ _ t.This x.kind primary_not.12
        | inr y ↦ elim y [
          | inl x ↦ is_not _ _ t.This x.kind primary_not.10
          | inr z ↦ elim z [ inl x ↦ is_not _ _ t.This x.kind primary_not.7 | inr x ↦ is_not _ _ t.This x.kind primary_not.3 ]
        ]
      ]))
      (λ s a m j d last. d.kind)
      (λ s a m j d last. elim d [
        | inl x ↦ not_among literal_words _ _ x.kind primary_not.14
        | inr y ↦ elim y [
          | inl x ↦ not_among literal_words _ _ x.kind primary_not.13
          | inr z ↦ elim z [ inl x ↦ not_among literal_words _ _ x.kind primary_not.11 | inr w ↦ elim w [ inl x ↦ not_among literal_words _ _ x.kind primary_not.8 | inr x ↦ not_among literal_words _ _ x.kind primary_not.4 ] ]
        ]
      ])))
      to_primary (λ s a i j d. from_primary s d) (λ a x e. e)
