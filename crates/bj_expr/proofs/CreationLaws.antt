-- The readers of new objects and new arrays.
use Rattle.std.proofs.Common.{◌≡◌, ℕ, suc, ◌⊎◌, inl, inr, true, false, refl, sym, ap, ◌∙◌, subst, le_refl, List, [], ◌∷◌}
use Rattle.std.proofs.lemmas.Bool.{both_ways}
use Rattle.bj_base.specs.declared.span.Span.{Span}
use Rattle.bj_token.specs.declared.token.Token.{Token}
use Rattle.bj_expr_tree.specs.declared.types.TypeTree.{TypeTree}
use Rattle.bj_expr_tree.specs.declared.expr.ExprTree.{ExprTree}
use Rattle.bj_expr_tree.specs.declared.expr.ExprTree.TheVariants as tree
use Rattle.bj_expr.specs.declared.bounds.Bounds.{Bounds}
use Rattle.bj_expr.specs.declared.part.Part.{Part}
use Rattle.bj_expr.specs.declared.part.Part.TheVariants as part
use Rattle.bj_grammar.specs.declared.terminal.Terminal.{Terminal}
use Rattle.bj_grammar.specs.declared.terminal.Terminal.TheVariants as t
use Rattle.bj_grammar.specs.Terminal.{terminal, same_terminal, among}
use Rattle.bj_grammar.specs.Reader.{Text, Parser}
use Rattle.bj_expr.specs.Grammar as g
use Rattle.bj_expr.specs.Grammar.{type_words, type_tree, is_new_array, Dims, Expression, Sizes, Values, Args, Primary}
use Rattle.bj_expr.specs.Reading as r
use Rattle.bj_expr.specs.Reading.{is, begins_plain}
use Rattle.bj_grammar.proofs.Laws.{Rel, Laws, Then, Same, Word, Operator, Either, pure_laws, is_kind, kind_is, seq, alt, tok, op, start, renamed}
use Rattle.bj_expr.proofs.Facts.{other, stops_expression, begins_unary, tokens_of}
use Rattle.bj_expr.proofs.Begins.{expression_begins, values_begin}
use Rattle.bj_expr.proofs.Tall as tall
use Rattle.bj_expr.proofs.LawLemmas.{pick_laws, same_after, Tall, After, PartRel, AfterPart, is_not, closer, is_closer}
use Rattle.bj_expr.proofs.TypeLaws.{AfterType, Pairs, type_word, pairs_laws, from_dims}
use Rattle.bj_expr.proofs.ArgumentLaws.{Arguments, arguments_laws}
use Rattle.bj_expr.proofs.ValueLaws.{values_laws}
use Rattle.bj_expr.proofs.SizeLaws.{MoreSizes, more_sizes_laws, more_grows, both_of, bracketed, first_size, pairs_after, dims_more, unary_right_bracket}

-- What may stand behind a primary expression: behind a new array of given sizes no bracket, which would be its own.
abbrev pub AfterPrimary : ExprTree → Terminal → Type 0
AfterPrimary = λ a x. (among begins_plain x ≡ false) × (is_new_array a ≡ true → same_terminal x t.LeftBracket ≡ false)

brackets_not : (same_terminal t.LeftBracket t.LeftBrace ≡ false) × (same_terminal t.LeftBrace t.LeftParen ≡ false) × (same_terminal t.LeftBracket t.LeftParen ≡ false) × (same_terminal t.LeftBrace t.LeftBracket ≡ false)
unfolding same_terminal
brackets_not = (refl, refl, refl, refl)

module _ (place : ℕ → Span) (bounds : Bounds) (n : ℕ) (nested : Part → Parser ExprTree)
    (u : (x : Part) → Laws bounds.most (nested x) (PartRel place x) (AfterPart x) (Tall n)) where
  whole : Laws bounds.most (nested part.Expression) (λ s a i j. Expression place s a i j) (After stops_expression) (Tall n)
  whole = u part.Expression

  abbrev Parens : Rel (List ExprTree)
  Parens = Arguments place bounds n nested u

  -- ---- values

  abbrev ValuedRel : ℕ → ℕ → Token → ℕ → Rel ExprTree
  ValuedRel i m v k = Then (λ s a i j. Values place s a i j) (λ all. Same (tree.NewValues (place i) (type_tree (place m) v k) all))

  valued_laws : (i m : ℕ) (v : Token) (k : ℕ) → Laws bounds.most (r.valued place bounds nested i m v k) (ValuedRel i m v k) AfterPrimary (Tall (suc n))
  unfolding r.valued
  valued_laws i m v k = seq (values_laws place bounds n nested u (λ _ _. Unit {0})) (λ all. pure_laws bounds.most (tree.NewValues (place i) (type_tree (place m) v k) all) AfterPrimary (Tall (suc n)))
      (λ s all k2 b j d last. tt) (λ s all k2 b j d at h. tall.tall_newvalues_values n (place i) (type_tree (place m) v k) all b d.tree h)

  abbrev UnsizedRel : ℕ → ℕ → Token → Rel ExprTree
  UnsizedRel i m v = Word t.RightBracket (λ _. Then (Pairs 1) (λ k. ValuedRel i m v k))

  unsized_laws : (i m : ℕ) (v : Token) → Laws bounds.most (r.unsized place bounds nested i m v) (UnsizedRel i m v) AfterPrimary (Tall (suc n))
  unfolding r.unsized
  unsized_laws i m v = tok t.RightBracket refl (λ _. seq (pairs_laws bounds.most 1) (λ k. valued_laws i m v k)
      (λ s k k2 b j d last. is_not _ _ t.LeftBracket (values_begin place s d.first) brackets_not.3) (λ s k k2 b j d at h. absurd h))

  -- ---- sizes

  abbrev SizedRel : ℕ → ℕ → Token → Rel ExprTree
  SizedRel i m v = Then (λ s a i j. Expression place s a i j) (λ x. Word t.RightBracket (λ _. Then (λ s a i j. MoreSizes place s (x ∷ []) a i j) (λ d. Same (tree.NewArray (place i) (type_tree (place m) v 0) d.0 d.1))))

  new_array_is : (at : Span) (ty : TypeTree) (sizes : List ExprTree) (k : ℕ) → is_new_array (tree.NewArray at ty sizes k) ≡ true
  new_array_is at ty sizes k = refl

  sized_laws : (i m : ℕ) (v : Token) → Laws bounds.most (r.sized place bounds nested i m v) (SizedRel i m v) AfterPrimary (Tall (suc n))
  unfolding r.sized
  sized_laws i m v = seq whole (λ x. tok t.RightBracket refl (λ _. seq (more_sizes_laws place bounds n nested u bounds.most (le_refl bounds.most) (x ∷ []))
      (λ d. pure_laws bounds.most (tree.NewArray (place i) (type_tree (place m) v 0) d.0 d.1) AfterPrimary (Tall (suc n)))
      (λ s d k b j c last. same_after AfterType s b b k j (record { tree = refl; at = c.at }) (last.1 (ap is_new_array c.tree ∙ new_array_is (place i) (type_tree (place m) v 0) d.0 d.1)))
      (λ s d k b j c at h. tall.tall_newarray_sizes n (place i) (type_tree (place m) v 0) d.0 d.1 b c.tree h)))
      (λ s x k b j d last. closer _ t.RightBracket d.kind is_closer.1)
      (λ s x k b j d at h. tall.tall_newarray_sizes n (place i) (type_tree (place m) v 0) d.rest.part.0 d.rest.part.1 b d.rest.rest.tree
      (more_grows place bounds n nested u s d.rest.first (tall.tall_one n x (x ∷ []) refl h)))

  -- ---- arrays and objects

  abbrev ArrayRel : ℕ → ℕ → Token → Rel ExprTree
  ArrayRel i m v = Either (ValuedRel i m v 0) (Word t.LeftBracket (λ _. Either (UnsizedRel i m v) (SizedRel i m v)))

  array_laws : (i m : ℕ) (v : Token) → Laws bounds.most (r.array place bounds nested i m v) (ArrayRel i m v) AfterPrimary (Tall (suc n))
  unfolding r.array
  array_laws i m v = alt (is t.LeftBrace) (valued_laws i m v 0)
      (tok t.LeftBracket refl (λ _. alt (is t.RightBracket) (unsized_laws i m v) (sized_laws i m v)
      (λ s a k j d last. is_kind _ _ d.kind)
      (λ s a k j d last. other (among begins_unary) _ t.RightBracket unary_right_bracket (expression_begins place s d.first))))
      (λ s a k j d last. is_kind _ _ (values_begin place s d.first))
      (λ s a k j d last. is_not _ _ t.LeftBrace d.kind brackets_not.0)

  abbrev ObjectRel : ℕ → List ℕ → Rel ExprTree
  ObjectRel i class = Then Parens (λ all. Same (tree.New (place i) class all))

  object_laws : (i : ℕ) (class : List ℕ) → Laws bounds.most (r.object place bounds nested i class) (ObjectRel i class) AfterPrimary (Tall (suc n))
  unfolding r.object
  object_laws i class = seq (arguments_laws place bounds n nested u (λ _ _. Unit {0})) (λ all. pure_laws bounds.most (tree.New (place i) class all) AfterPrimary (Tall (suc n)))
      (λ s all m b j d last. tt) (λ s all m b j d at h. tall.tall_new_args n (place i) class all b d.tree h)

  -- a new object of the class that the token names
  pub record OfClass (i : ℕ) (v : Token) (s : Text) (a : ExprTree) (m j : ℕ) : Type 0 where
    pub class : terminal v ≡ t.Word
    pub stands : ObjectRel i v.text s a m j

  abbrev CreatedRel : ℕ → ℕ → Token → Rel ExprTree
  CreatedRel i m v = Either (OfClass i v) (ArrayRel i m v)

  array_no_paren : (i m : ℕ) (v : Token) (s : Text) (a : ExprTree) (k j : ℕ) → ArrayRel i m v s a k j → same_terminal (terminal (s k)) t.LeftParen ≡ false
  array_no_paren i m v s a k j (inl d) = is_not _ _ t.LeftParen (values_begin place s d.first) brackets_not.1
  array_no_paren i m v s a k j (inr d) = is_not _ _ t.LeftParen d.kind brackets_not.2

  created_laws : (i m : ℕ) (v : Token) → Laws bounds.most (r.created place bounds nested i m v) (CreatedRel i m v) AfterPrimary (Tall (suc n))
  unfolding r.created
  created_laws i m v = pick_laws (same_terminal (terminal v) t.Word)
      (λ e. renamed (CreatedRel i m v) AfterPrimary
      (alt (is t.LeftParen) (object_laws i v.text) (array_laws i m v) (λ s a k j d last. is_kind _ _ d.first.kind) (λ s a k j d last. array_no_paren i m v s a k j d))
      (λ s a k j d. elim d [ inl x ↦ inl (record { class = kind_is _ _ e; stands = x }) | inr y ↦ inr y ]) (λ s a k j d. elim d [ inl x ↦ inl x.stands | inr y ↦ inr y ]) (λ a x z. z))
      (λ e. renamed (CreatedRel i m v) AfterPrimary (array_laws i m v) (λ s a k j d. inr d)
      (λ s a k j d. elim d [ inl x ↦ absurd (both_ways (same_terminal (terminal v) t.Word) e (is_kind _ _ x.class)) | inr y ↦ y ]) (λ a x z. z))

  abbrev pub CreationRel : ℕ → Rel ExprTree
  CreationRel i = Word t.New (λ _. λ s a m j. Operator (among type_words) (λ v. CreatedRel i m v) s a m j)

  pub creation_laws : (i : ℕ) → Laws bounds.most (r.creation place bounds nested i) (CreationRel i) AfterPrimary (Tall (suc n))
  unfolding r.creation
  creation_laws i = tok t.New refl (λ _. start {D = λ m. Operator (among type_words) (λ v. CreatedRel i m v)}
      (λ m. op {Q = λ v. CreatedRel i m v} (among type_words) t.Word refl type_word.0 (tokens_of type_words type_word.1) (λ v. created_laws i m v)))

  -- ---- as productions

  pub to_creation : (s : Text) (a : ExprTree) (i j : ℕ) → CreationRel i s a i j → Primary place s a i j
  to_creation s a i j d = of d.rest.rest
    where
      v : Token
      v = s (suc i)

      with_values : (k m : ℕ) → Dims s k (suc (suc i)) m → ValuedRel i (suc i) v k s a m j → Primary place s a i j
      with_values k m y c = g.new_values d.kind d.rest.kind y (subst (λ (o : ℕ). Values place s c.part m o) (sym c.rest.at) c.first) c.rest.tree

      of_array : Word t.LeftBracket (λ _. Either (UnsizedRel i (suc i) v) (SizedRel i (suc i) v)) s a (suc (suc i)) j → Primary place s a i j
      of_array c = elim c.rest [
        | inl w ↦ with_values w.rest.part w.rest.at (bracketed place s w.rest.part (suc (suc i)) w.rest.at c.kind w.kind w.rest.first) w.rest.rest
        | inr w ↦ (let b = both_of place s (suc (suc i)) (g.size c.kind w.first w.rest.kind refl refl) w.rest.rest.first in
            g.new_array d.kind d.rest.kind b.sizes (subst (λ (o : ℕ). Dims s w.rest.rest.part.1 b.at o) (sym w.rest.rest.rest.at) b.pairs) w.rest.rest.rest.tree)
      ]

      of : CreatedRel i (suc i) v s a (suc (suc i)) j → Primary place s a i j
      of (inl c) =
          let w = c.stands.first.rest in
          g.create d.kind c.class c.stands.first.kind w.first w.rest.kind (c.stands.rest.tree ∙ ap (tree.New (place i) v.text) w.rest.rest.tree) (c.stands.rest.at ∙ w.rest.rest.at)
      of (inr (inl c)) = with_values 0 (suc (suc i)) (g.no_pair refl refl) c
      of (inr (inr c)) = of_array c

  created : (s : Text) (a : ExprTree) (i j : ℕ) → terminal (s i) ≡ t.New → among type_words (terminal (s (suc i))) ≡ true → CreatedRel i (suc i) (s (suc i)) s a (suc (suc i)) j → CreationRel i s a i j
  created s a i j o o2 d = record { kind = o; rest = record { kind = o2; rest = d } }

  pub from_create : (s : Text) (a : ExprTree) (args : List ExprTree) (i m j : ℕ) → terminal (s i) ≡ t.New → terminal (s (suc i)) ≡ t.Word → terminal (s (suc (suc i))) ≡ t.LeftParen
      → Args place s args (suc (suc (suc i))) m → terminal (s m) ≡ t.RightParen → a ≡ tree.New (place i) (s (suc i)).text args → j ≡ suc m → CreationRel i s a i j
  from_create s a args i m j o o2 o3 d o4 e at = created s a i j o (ap (among type_words) o2 ∙ type_word.0) (inl (record {
    class = o2;
    stands = record {
      part = args;
      at = suc m;
      first = record { kind = o3; rest = record { part = args; at = m; first = d; rest = record { kind = o4; rest = record { tree = refl; at = refl } } } };
      rest = record { tree = e; at = at };
    };
  }))

  pub from_array : (s : Text) (a : ExprTree) (sizes : List ExprTree) (k i m j : ℕ) → terminal (s i) ≡ t.New → among type_words (terminal (s (suc i))) ≡ true → Sizes place s sizes (suc (suc i)) m → Dims s k m j
      → a ≡ tree.NewArray (place i) (type_tree (place (suc i)) (s (suc i)) 0) sizes k → CreationRel i s a i j
  from_array s a sizes k i m j o o2 d p e =
      let f = first_size place s d (dims_more place s sizes p) in
      created s a i j o o2 (inr (inr (record {
        kind = f.opened;
        rest = inr (record {
          part = f.value;
          at = f.at;
          first = f.first;
          rest = record { kind = f.closed; rest = record { part = (sizes, k); at = j; first = f.rest; rest = record { tree = e; at = refl } } };
        });
      })))

  pub from_valued : (s : Text) (a : ExprTree) (all : List ExprTree) (k i m j : ℕ) → terminal (s i) ≡ t.New → among type_words (terminal (s (suc i))) ≡ true → Dims s k (suc (suc i)) m → Values place s all m j
      → a ≡ tree.NewValues (place i) (type_tree (place (suc i)) (s (suc i)) k) all → CreationRel i s a i j
  from_valued s a all k i m j o o2 p d e = created s a i j o o2 (of (pairs_after place s (from_dims s p)))
    where
      of : ((k ≡ 0) × (m ≡ suc (suc i))) ⊎ ((terminal (s (suc (suc i))) ≡ t.LeftBracket) × (terminal (s (suc (suc (suc i)))) ≡ t.RightBracket) × Pairs 1 s k (suc (suc (suc (suc i)))) m)
          → CreatedRel i (suc i) (s (suc i)) s a (suc (suc i)) j
      of (inl c) = inr (inl (record {
        part = all;
        at = j;
        first = subst (λ (o : ℕ). Values place s all o j) c.1 d;
        rest = record { tree = e ∙ ap (λ (o : ℕ). tree.NewValues (place i) (type_tree (place (suc i)) (s (suc i)) o) all) c.0; at = refl };
      }))
      of (inr c) = inr (inr (record {
        kind = c.0;
        rest = inl (record { kind = c.1; rest = record { part = k; at = m; first = c.2; rest = record { part = all; at = j; first = d; rest = record { tree = e; at = refl } } } });
      }))
