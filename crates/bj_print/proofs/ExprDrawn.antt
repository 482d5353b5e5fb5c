-- The tokens of a printed expression are those of the text that it was read from.
use Rattle.std.proofs.Common.{◌≡◌, ◌≢◌, ℕ, suc, List, [], ◌∷◌, ◌++◌, map, refl, sym, ap, ◌∙◌, subst, le_refl}
use Rattle.std.specs.Prelude.{codes}
use Rattle.bj_base.specs.declared.span.Span.{Span}
use Rattle.bj_token.specs.declared.token.TokenKind.TheVariants as kinds
use Rattle.bj_lex.specs.Grammar.{Spelled}
use Rattle.bj_expr_tree.specs.declared.expr.UnaryOp.TheVariants as unaries
use Rattle.bj_expr_tree.specs.declared.expr.ExprTree.{ExprTree}
use Rattle.bj_grammar.specs.declared.terminal.Terminal.TheVariants as t
use Rattle.bj_grammar.specs.Terminal.{terminal}
use Rattle.bj_grammar.specs.Reader.{Text}
use Rattle.bj_expr.specs.Grammar as g
use Rattle.bj_expr.specs.Grammar.{Expression, Conditional, Level, Unary, Plain, Postfix, Selected, Primary, Sizes, Values, Initializers, Initializer, Args, Exprs, literal_kind, type_tree}
use Rattle.bj_writer.specs.Pieces.{Piece, Space}
use Rattle.bj_layout.specs.Exprs.{expr_pieces, sign, comma, in_parens, in_brackets, in_braces, arguments, each_behind, with_commas, pairs, type_pieces}
use Rattle.bj_print.proofs.Drawn.{Drawn, AllDrawn, both, all_one, all_next, Rows, rows_drawn, rows_none, rows_one, rows_next}
use Rattle.bj_print.proofs.DrawnTokens as drawn
use Rattle.bj_layout.proofs.ExprPieces as w
use Rattle.bj_print.proofs.Holds.{spelling_of}

module _ (P : Spelled → Type 0) (place : ℕ → Span) (s : Text) (given : (x : ℕ) → terminal (s x) ≢ t.Other → P (spelling_of (s x))) where
  abbrev D : ExprTree → Type 0
  D a = Drawn P (expr_pieces a)

  -- expressions with commas between them
  abbrev Ds : List ExprTree → Type 0
  Ds xs = Rows P expr_pieces comma xs

  -- as a form is printed
  form : {a b : ExprTree} {p : List Piece} → a ≡ b → expr_pieces b ≡ p → Drawn P p → D a
  form is printed d = subst (Drawn P) (sym (ap expr_pieces is ∙ printed)) d

  -- ---- brackets

  in_parens_drawn : (p : List Piece) (x y : ℕ) → terminal (s x) ≡ t.LeftParen → Drawn P p → terminal (s y) ≡ t.RightParen → Drawn P (in_parens p)
  in_parens_drawn p x y left d right = (drawn.sign_drawn P s given x t.LeftParen left refl (λ e. cc), both P p (sign (codes ")") ∷ []) d (drawn.sign_drawn P s given y t.RightParen right refl (λ e. cc), tt))

  in_brackets_drawn : (p : List Piece) (x y : ℕ) → terminal (s x) ≡ t.LeftBracket → Drawn P p → terminal (s y) ≡ t.RightBracket → Drawn P (in_brackets p)
  in_brackets_drawn p x y left d right = (drawn.sign_drawn P s given x t.LeftBracket left refl (λ e. cc), both P p (sign (codes "]") ∷ []) d (drawn.sign_drawn P s given y t.RightBracket right refl (λ e. cc), tt))

  in_braces_drawn : (p : List Piece) (x y : ℕ) → terminal (s x) ≡ t.LeftBrace → Drawn P p → terminal (s y) ≡ t.RightBrace → Drawn P (in_braces p)
  in_braces_drawn p x y left d right = (drawn.sign_drawn P s given x t.LeftBrace left refl (λ e. cc), both P p (sign (codes "}") ∷ []) d (drawn.sign_drawn P s given y t.RightBrace right refl (λ e. cc), tt))

  arguments_drawn : (xs : List ExprTree) (x y : ℕ) → terminal (s x) ≡ t.LeftParen → Ds xs → terminal (s y) ≡ t.RightParen → Drawn P (arguments (map expr_pieces xs))
  arguments_drawn xs x y left d right = in_parens_drawn (with_commas (map expr_pieces xs)) x y left (rows_drawn P expr_pieces comma xs d) right

  dot_drawn : (x : ℕ) → terminal (s x) ≡ t.Dot → P (kinds.Sign, codes ".")
  dot_drawn x is = drawn.sign_drawn P s given x t.Dot is refl (λ e. cc)

  -- ---- lists

  -- sizes, each in its brackets
  abbrev Sized : List ExprTree → Type 0
  Sized xs = AllDrawn P (map (λ x. in_brackets (expr_pieces x)) xs)

  sizes_drawn : (xs : List ExprTree) → Sized xs → Drawn P (each_behind [] (map in_brackets (map expr_pieces xs)))
  sizes_drawn [] d = tt
  sizes_drawn (x ∷ xs) d = both P (in_brackets (expr_pieces x)) _ d.0 (sizes_drawn xs d.1)

  -- ---- the rules

  mutual
    pub expression : (a : ExprTree) (i j : ℕ) → Expression place s a i j → D a
    expression a i j (g.value d) = conditional a i j d
    expression a i j (g.assign {a = b} {l = l} {r = r} {i = i2} {m = m} {j = j2} x op y is) =
        form is (w.assign_pieces _ _ l r) (both P (expr_pieces l) _ (unary l i2 m x) (drawn.assign_drawn P s given m op, expression r (suc m) j2 y))

    conditional : (a : ExprTree) (i j : ℕ) → Conditional place s a i j → D a
    conditional a i j (g.ranked d) = level _ a i j d
    conditional a i j (g.conditional {a = b} {x = x} {y = y} {z = z} {i = i2} {m = m} {n = n} {j = j2} dx q dy c dz is) =
        form is (w.conditional_pieces _ x y z) (both P (expr_pieces x) _ (level _ x i2 m dx) (
          drawn.sign_drawn P s given m t.Question q refl (λ e. cc),
          both P (expr_pieces y) _ (expression y (suc m) n dy) (drawn.sign_drawn P s given n t.Colon c refl (λ e. cc), conditional z (suc n) j2 dz),
        ))

    level : (h : ℕ) (a : ExprTree) (i j : ℕ) → Level place s h a i j → D a
    level h a i j (g.unary d) = unary a i j d
    level h a i j (g.tighter {h = k} d) = level k a i j d
    level h a i j (g.binary {h = k} {a = b} {l = l} {r = r} {i = i2} {m = m} {j = j2} x op y is) =
        form is (w.binary_pieces _ _ l r) (both P (expr_pieces l) _ (level (suc k) l i2 m x) (drawn.binary_drawn P s given k m op, level k r (suc m) j2 y))
    level h a i j (g.instance {h = k} {a = b} {l = l} {ty = ty} {i = i2} {m = m} {j = j2} x rel of d is) =
        form is (w.instance_of_pieces _ l ty) (both P (expr_pieces l) _ (level (suc k) l i2 m x) (drawn.keyword_drawn P s given m t.InstanceOf of refl (λ e. cc), drawn.type_drawn P s given place ty (suc m) j2 d))

    pub unary : (a : ExprTree) (i j : ℕ) → Unary place s a i j → D a
    unary a i j (g.minus {a = b} {x = x} {i = i2} {j = j2} o d is) = form is (w.unary_pieces _ unaries.Minus x) (drawn.sign_drawn P s given i2 t.Minus o refl (λ e. cc), unary x (suc i2) j2 d)
    unary a i j (g.least {a = b} {i = i2} {j = j2} o l is end) =
        form is (w.unary_pieces _ unaries.Minus _) (
          drawn.sign_drawn P s given i2 t.Minus o refl (λ e. cc),
          subst (Drawn P) (sym (w.literal_pieces (place (suc i2)) (literal_kind (terminal (s (suc i2)))) (s (suc i2)).text)) (drawn.least_drawn P s given (suc i2) l, tt),
        )
    unary a i j (g.plus {a = b} {x = x} {i = i2} {j = j2} o d is) = form is (w.unary_pieces _ unaries.Plus x) (drawn.sign_drawn P s given i2 t.Plus o refl (λ e. cc), unary x (suc i2) j2 d)
    unary a i j (g.prefix {a = b} {x = x} {i = i2} {j = j2} o d is) = form is (w.prefix_pieces _ _ x) (drawn.step_drawn P s given i2 o, unary x (suc i2) j2 d)
    unary a i j (g.plain d) = plain a i j d

    plain : (a : ExprTree) (i j : ℕ) → Plain place s a i j → D a
    plain a i j (g.negation {a = b} {x = x} {i = i2} {j = j2} o d is) = form is (w.unary_pieces _ _ x) (drawn.negation_drawn P s given i2 o, unary x (suc i2) j2 d)
    plain a i j (g.cast_primitive {a = b} {ty = ty} {x = x} {i = i2} {m = m} {j = j2} left dt right p d is) =
        form is (w.cast_pieces _ ty x) (both P (in_parens (type_pieces ty)) (Space ∷ expr_pieces x) (in_parens_drawn (type_pieces ty) i2 m left (drawn.type_drawn P s given place ty (suc i2) m dt) right) (unary x (suc m) j2 d))
    plain a i j (g.cast_reference {a = b} {ty = ty} {x = x} {i = i2} {m = m} {j = j2} left dt right p d is) =
        form is (w.cast_pieces _ ty x) (both P (in_parens (type_pieces ty)) (Space ∷ expr_pieces x) (in_parens_drawn (type_pieces ty) i2 m left (drawn.type_drawn P s given place ty (suc i2) m dt) right) (plain x (suc m) j2 d))
    plain a i j (g.postfix d) = postfix a i j d

    postfix : (a : ExprTree) (i j : ℕ) → Postfix place s a i j → D a
    postfix a i j (g.selected d) = selected a i j d
    postfix a i j (g.step {a = b} {x = x} {i = i2} {m = m} {j = j2} d o is end) = form is (w.postfix_pieces _ _ x) (both P (expr_pieces x) _ (postfix x i2 m d) (drawn.step_drawn P s given m o, tt))

    selected : (a : ExprTree) (i j : ℕ) → Selected place s a i j → D a
    selected a i j (g.primary d) = primary a i j d
    selected a i j (g.field {a = b} {x = x} {i = i2} {m = m} {j = j2} d o n is end) = form is (w.field_pieces _ x _) (both P (expr_pieces x) _ (selected x i2 m d) (dot_drawn m o, (drawn.word_drawn P s given (suc m) n, tt)))
    selected a i j (g.method_call {a = b} {x = x} {args = xs} {i = i2} {m = m} {n = n} {j = j2} d o v left ds right is end) =
        form is (w.method_call_pieces _ x _ xs) (both P (expr_pieces x) _ (selected x i2 m d) (dot_drawn m o, (drawn.word_drawn P s given (suc m) v, arguments_drawn xs (suc (suc m)) n left (args xs _ n ds) right)))
    selected a i j (g.index {a = b} {x = x} {y = y} {i = i2} {m = m} {n = n} {j = j2} d other left dy right is end) =
        form is (w.index_pieces _ x y) (both P (expr_pieces x) (in_brackets (expr_pieces y)) (selected x i2 m d) (in_brackets_drawn (expr_pieces y) m n left (expression y (suc m) n dy) right))

    primary : (a : ExprTree) (i j : ℕ) → Primary place s a i j → D a
    primary a i j (g.literal {a = b} {i = i2} {j = j2} l is end) = form is (w.literal_pieces _ _ _) (drawn.literal_drawn P s given i2 l, tt)
    primary a i j (g.this {a = b} {i = i2} {j = j2} k is end) = form is (w.this_pieces _) (drawn.keyword_drawn P s given i2 t.This k refl (λ e. cc), tt)
    primary a i j (g.paren {a = b} {x = x} {i = i2} {m = m} {j = j2} left d right is end) = form is (w.paren_pieces _ x) (in_parens_drawn (expr_pieces x) i2 m left (expression x (suc i2) m d) right)
    primary a i j (g.name {a = b} {i = i2} {j = j2} v is end) = form is (w.name_pieces _ _) (drawn.word_drawn P s given i2 v, tt)
    primary a i j (g.call {a = b} {args = xs} {i = i2} {m = m} {j = j2} v left ds right is end) = form is (w.call_pieces _ _ xs) (drawn.word_drawn P s given i2 v, arguments_drawn xs (suc i2) m left (args xs _ m ds) right)
    primary a i j (g.super_field {a = b} {i = i2} {j = j2} k o v is end) = form is (w.super_field_pieces _ _) (drawn.keyword_drawn P s given i2 t.Super k refl (λ e. cc), (dot_drawn (suc i2) o, (drawn.word_drawn P s given (suc (suc i2)) v, tt)))
    primary a i j (g.super_call {a = b} {args = xs} {i = i2} {m = m} {j = j2} k o v left ds right is end) =
        form is (w.super_call_pieces _ _ xs) (drawn.keyword_drawn P s given i2 t.Super k refl (λ e. cc), (dot_drawn (suc i2) o, (drawn.word_drawn P s given (suc (suc i2)) v, arguments_drawn xs (suc (suc (suc i2))) m left (args xs _ m ds) right)))
    primary a i j (g.create {a = b} {args = xs} {i = i2} {m = m} {j = j2} k v left ds right is end) =
        form is (w.new_pieces _ _ xs) (drawn.keyword_drawn P s given i2 t.New k refl (λ e. cc), (drawn.word_drawn P s given (suc i2) v, arguments_drawn xs (suc (suc i2)) m left (args xs _ m ds) right))
    primary a i j (g.new_array {a = b} {sizes = xs} {n = n} {i = i2} {m = m} {j = j2} k v ds d is) =
        form is (w.new_array_pieces _ _ xs n) (
          drawn.keyword_drawn P s given i2 t.New k refl (λ e. cc),
          both P (_ ∷ []) (each_behind [] (map in_brackets (map expr_pieces xs)) ++ pairs n) (drawn.type_word_drawn P s given (suc i2) v) (both P (each_behind [] (map in_brackets (map expr_pieces xs))) (pairs n) (sizes_drawn xs (sizes xs _ m ds)) (drawn.pairs_drawn P s given n m j2 d n (le_refl n))),
        )
    primary a i j (g.new_values {a = b} {values = xs} {n = n} {i = i2} {m = m} {j = j2} k v d ds is) =
        form is (w.new_values_pieces _ _ xs) (
          drawn.keyword_drawn P s given i2 t.New k refl (λ e. cc),
          both P (type_pieces (type_tree (place (suc i2)) (s (suc i2)) n)) (in_braces (with_commas (map expr_pieces xs))) (both P (_ ∷ []) (pairs n) (drawn.type_word_drawn P s given (suc i2) v) (drawn.pairs_drawn P s given n (suc (suc i2)) m d n (le_refl n))) (values xs m j2 ds),
        )

    sizes : (a : List ExprTree) (i j : ℕ) → Sizes place s a i j → Sized a
    sizes a i j (g.size {x = x} {i = i2} {m = m} {j = j2} left d right is end) = all_one P (λ y. in_brackets (expr_pieces y)) a x is (in_brackets_drawn (expr_pieces x) i2 m left (expression x (suc i2) m d) right)
    sizes a i j (g.next_size {b = c} {x = x} {i = i2} {m = m} {n = n} {j = j2} ds left d right is end) =
        all_next P (λ y. in_brackets (expr_pieces y)) a c x is (sizes c i2 m ds) (in_brackets_drawn (expr_pieces x) m n left (expression x (suc m) n d) right)

    values : (a : List ExprTree) (i j : ℕ) → Values place s a i j → Drawn P (in_braces (with_commas (map expr_pieces a)))
    values a i j (g.no_values {a = b} {i = i2} {j = j2} left right is end) = subst (λ (xs : List ExprTree). Drawn P (in_braces (with_commas (map expr_pieces xs)))) (sym is) (in_braces_drawn [] i2 (suc i2) left tt right)
    values a i j (g.only_comma {a = b} {i = i2} {j = j2} left c right is end) = subst (λ (xs : List ExprTree). Drawn P (in_braces (with_commas (map expr_pieces xs)))) (sym is) (in_braces_drawn [] i2 (suc (suc i2)) left tt right)
    values a i j (g.values {a = b} {i = i2} {m = m} {j = j2} left d right end) = in_braces_drawn (with_commas (map expr_pieces a)) i2 m left (rows_drawn P expr_pieces comma a (initializers a (suc i2) m d)) right
    values a i j (g.values_comma {a = b} {i = i2} {m = m} {j = j2} left d c right end) = in_braces_drawn (with_commas (map expr_pieces a)) i2 (suc m) left (rows_drawn P expr_pieces comma a (initializers a (suc i2) m d)) right

    initializers : (a : List ExprTree) (i j : ℕ) → Initializers place s a i j → Ds a
    initializers a i j (g.first {a = b} {x = x} {i = i2} {j = j2} d is) = rows_one P expr_pieces comma a x is (initializer x i2 j2 d)
    initializers a i j (g.next {a = b} {b = c} {x = x} {i = i2} {m = m} {j = j2} ds k d is) = rows_next P expr_pieces comma a c x is (drawn.comma_drawn P s given m k) (initializers c i2 m ds) (initializer x (suc m) j2 d)

    pub initializer : (a : ExprTree) (i j : ℕ) → Initializer place s a i j → D a
    initializer a i j (g.expression d) = expression a i j d
    initializer a i j (g.braces {a = b} {all = all} {i = i2} {j = j2} d is) = form is (w.braces_pieces _ all) (values all i2 j2 d)

    pub args : (a : List ExprTree) (i j : ℕ) → Args place s a i j → Ds a
    args a i j (g.none is end) = rows_none P expr_pieces comma a is
    args a i j (g.some d) = exprs a i j d

    exprs : (a : List ExprTree) (i j : ℕ) → Exprs place s a i j → Ds a
    exprs a i j (g.one {a = b} {x = x} {i = i2} {j = j2} d is) = rows_one P expr_pieces comma a x is (expression x i2 j2 d)
    exprs a i j (g.comma {a = b} {b = c} {x = x} {i = i2} {m = m} {j = j2} ds k d is) = rows_next P expr_pieces comma a c x is (drawn.comma_drawn P s given m k) (exprs c i2 m ds) (expression x (suc m) j2 d)
