-- The readers of arguments.
use Rattle.std.proofs.Common.{◌≡◌, ℕ, suc, inl, inr, false, refl, sym, subst, arith, List, [], ◌∷◌, ◌++◌}
use Rattle.bj_base.specs.declared.span.Span.{Span}
use Rattle.bj_expr_tree.specs.declared.expr.ExprTree.{ExprTree}
use Rattle.bj_expr.specs.declared.bounds.Bounds.{Bounds}
use Rattle.bj_expr.specs.declared.part.Part.{Part}
use Rattle.bj_expr.specs.declared.part.Part.TheVariants as part
use Rattle.bj_grammar.specs.declared.terminal.Terminal.{Terminal}
use Rattle.bj_grammar.specs.declared.terminal.Terminal.TheVariants as t
use Rattle.bj_grammar.specs.Terminal.{terminal, same_terminal, among}
use Rattle.bj_grammar.specs.Reader.{Text, Parser}
use Rattle.bj_expr.specs.Grammar as g
use Rattle.bj_expr.specs.Grammar.{Expression, Args, Exprs}
use Rattle.bj_expr.specs.Reading as r
use Rattle.bj_expr.specs.Reading.{is}
use Rattle.bj_grammar.proofs.Laws.{Rel, Laws, Then, Same, Word, Either, Steps, done, pure_laws, steps_end, steps_fold, is_kind, kind_is, seq, alt, tok, renamed, rep}
use Rattle.bj_expr.proofs.Facts.{other, stops_expression, begins_unary}
use Rattle.bj_expr.proofs.Begins.{exprs_begins}
use Rattle.bj_expr.proofs.Tall as tall
use Rattle.bj_expr.proofs.Tall.{TallList}
use Rattle.bj_expr.proofs.LawLemmas.{same_after, Tall, After, PartRel, AfterPart, is_not, closer, is_closer}

not_paren : same_terminal t.RightParen t.Comma ≡ false
unfolding same_terminal
not_paren = refl

begins_right_paren : among begins_unary t.RightParen ≡ false
unfolding same_terminal
begins_right_paren = refl

module _ (place : ℕ → Span) (bounds : Bounds) (n : ℕ) (nested : Part → Parser ExprTree)
    (u : (x : Part) → Laws bounds.most (nested x) (PartRel place x) (AfterPart x) (Tall n)) where
  whole : Laws bounds.most (nested part.Expression) (λ s a i j. Expression place s a i j) (After stops_expression) (Tall n)
  whole = u part.Expression

  abbrev One : Rel (List ExprTree)
  One = Then (λ s a i j. Expression place s a i j) (λ x. Same (x ∷ []))

  abbrev Comma : List ExprTree → Rel (List ExprTree)
  Comma b = Word t.Comma (λ _. Then (λ s a i j. Expression place s a i j) (λ x. Same (b ++ x ∷ [])))

  abbrev pub ExprsRel : Rel (List ExprTree)
  ExprsRel = λ s a i j. Exprs place s a i j

  to_exprs : (s : Text) (a : List ExprTree) (i j : ℕ) → Then One (λ b v c m k. Steps Comma v b c m k) s a i j → Exprs place s a i j
  to_exprs s a i j d = steps_fold Comma ExprsRel s i
      (λ b c m k h o. g.comma h o.kind (subst (λ (z : ℕ). Expression place s o.rest.part (suc m) z) (sym o.rest.rest.at) o.rest.first) o.rest.rest.tree)
      d.part a d.at j (g.one (subst (λ (z : ℕ). Expression place s d.first.part i z) (sym d.first.rest.at) d.first.first) d.first.rest.tree) d.rest

  from_exprs : (s : Text) {a : List ExprTree} {i j : ℕ} → Exprs place s a i j → Then One (λ b v c m k. Steps Comma v b c m k) s a i j
  from_exprs s {a} {i} {j} (g.one {x} d e) = record { part = a; at = j; first = record { part = x; at = j; first = d; rest = record { tree = e; at = refl } }; rest = done refl refl }
  from_exprs s {a} {i} {j} (g.comma {b} {x} {m} d o y e) =
      let v = from_exprs s d in
      record { part = v.part; at = v.at; first = v.first; rest = steps_end Comma s v.part b a v.at m j v.rest (record { kind = o; rest = record { part = x; at = j; first = y; rest = record { tree = e; at = refl } } }) }

  abbrev pub AfterExprs : List ExprTree → Terminal → Type 0
  AfterExprs = λ _ x. (stops_expression x ≡ false) × (same_terminal x t.Comma ≡ false)

  pub exprs_laws : Laws bounds.most (r.exprs place bounds nested) ExprsRel AfterExprs (TallList n)
  unfolding r.exprs r.comma
  exprs_laws = renamed ExprsRel AfterExprs
      (rep {Q = Comma} (is t.Comma)
      (seq whole (λ x. pure_laws bounds.most (x ∷ []) (λ _ y. stops_expression y ≡ false) (TallList n)) (λ s x m b j d last. same_after (λ y. stops_expression y ≡ false) s (x ∷ []) b m j d last)
      (λ s x m b j d at h. tall.tall_one n x b d.tree h))
      (λ b. tok t.Comma refl (λ _. seq whole (λ x. pure_laws bounds.most (b ++ x ∷ []) (λ _ y. stops_expression y ≡ false) (TallList n))
      (λ s x m c j d last. same_after (λ y. stops_expression y ≡ false) s (b ++ x ∷ []) c m j d last) (λ s x m c j d at h. tall.tall_end n b x c d.tree h)))
      (λ s x a i j d. is_kind _ _ d.kind)
      (λ s x a i j d. let h = whole.shape.forward s d.rest.part (suc i) d.rest.at d.rest.first in let e = d.rest.rest.at in omega arith)
      (λ a x o. closer x t.Comma (kind_is x t.Comma o) is_closer.2)
      (λ s x a i j d at h. tall.tall_before n x d.rest.part a d.rest.rest.tree h))
      to_exprs (λ s a i j d. from_exprs s d) (λ a x e. e)

  abbrev pub ArgsRel : Rel (List ExprTree)
  ArgsRel = λ s a i j. Args place s a i j

  from_args : (s : Text) {a : List ExprTree} {i j : ℕ} → Args place s a i j → Either (Same []) ExprsRel s a i j
  from_args s (g.none e at) = inl (record { tree = e; at = at })
  from_args s (g.some d) = inr d

  pub args_laws : Laws bounds.most (r.args place bounds nested) ArgsRel (λ _ x. x ≡ t.RightParen) (TallList n)
  unfolding r.args
  args_laws = renamed ArgsRel (λ _ x. x ≡ t.RightParen)
      (alt (is t.RightParen) (pure_laws bounds.most [] (λ _ x. x ≡ t.RightParen) (TallList n))
      (renamed ExprsRel (λ _ x. x ≡ t.RightParen) exprs_laws (λ s a i j d. d) (λ s a i j d. d)
      (λ a x o. (closer x t.RightParen o is_closer.0, is_not x t.RightParen t.Comma o not_paren)))
      (λ s a i j d last. is_kind _ _ (subst (λ (m : ℕ). terminal (s m) ≡ t.RightParen) d.at last))
      (λ s a i j d last. other (among begins_unary) (terminal (s i)) t.RightParen begins_right_paren (exprs_begins place s d)))
      (λ s a i j d. elim d [ inl x ↦ g.none x.tree x.at | inr y ↦ g.some y ])
      (λ s a i j d. from_args s d) (λ a x o. o)

  abbrev pub Arguments : Rel (List ExprTree)
  Arguments = Word t.LeftParen (λ _. Then ArgsRel (λ all. Word t.RightParen (λ _. Same all)))

  pub arguments_laws : (E : List ExprTree → Terminal → Type 0) → Laws bounds.most (r.arguments place bounds nested) Arguments E (TallList n)
  unfolding r.arguments
  arguments_laws E = tok t.LeftParen refl (λ _. seq args_laws (λ all. tok t.RightParen refl (λ _. pure_laws bounds.most all E (TallList n))) (λ s all m b j d last. d.kind)
      (λ s all m b j d at h. subst (TallList n at) (sym d.rest.tree) h))
