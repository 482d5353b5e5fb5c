-- The first tokens of statements, what may follow one, and which end with an `if` that has no `else`.
use Rattle.std.proofs.Common.{◌≡◌, ℕ, ◌⊎◌, inl, inr, Bool, true, false, refl, sym, ap, ◌∙◌, List, [], ◌∷◌, Option}
use Rattle.std.specs.Prelude.{◌||◌}
use Rattle.bj_base.specs.declared.span.Span.{Span}
use Rattle.bj_expr_tree.specs.declared.types.TypeTree.{TypeTree}
use Rattle.bj_expr_tree.specs.declared.types.NamedPlace.{NamedPlace}
use Rattle.bj_expr_tree.specs.declared.expr.ExprTree.{ExprTree}
use Rattle.bj_tree.specs.declared.stmt.VariableTree.{VariableTree}
use Rattle.bj_tree.specs.declared.stmt.StmtTree.{StmtTree}
use Rattle.bj_tree.specs.declared.stmt.StmtTree.TheVariants as stmt
use Rattle.bj_tree.specs.declared.stmt.StmtTree.TheOpen.{StmtTree-F}
use Rattle.bj_tree.specs.declared.stmt.StmtTree.TheFolds.{fold-roll-StmtTree}
use Rattle.bj_grammar.specs.declared.terminal.Terminal.{Terminal}
use Rattle.bj_grammar.specs.declared.terminal.Terminal.TheVariants as t
use Rattle.bj_grammar.specs.Terminal.{terminal, same_terminal, among}
use Rattle.bj_grammar.specs.Reader.{Text}
use Rattle.bj_expr.specs.Grammar.{primitives}
use Rattle.bj_stmt.specs.Grammar.{jump, dangles, dangles_form}
use Rattle.bj_stmt.specs.Reading.{branch_words, loop_words, leave_words, guard_words, declares}
use Rattle.bj_stmt.proofs.Expressions.{expression_words}
use Rattle.bj_stmt.proofs.Leftmost.{each, or_cases, or_none, and_first}

pub or_right : (a b : Bool) → b ≡ true → (a || b) ≡ true
or_right true b e = refl
or_right false b e = e

pub or_left : (a b : Bool) → a ≡ true → (a || b) ≡ true
or_left a b e = ap (λ (x : Bool). x || b) e

pub among_more : (k : Terminal) (ks : List Terminal) (x : Terminal) → among ks x ≡ true → among (k ∷ ks) x ≡ true
among_more k ks x e = or_right (same_terminal x k) (among ks x) e

pub is_among : (ks : List Terminal) (x k : Terminal) → x ≡ k → among ks k ≡ true → among ks x ≡ true
is_among ks x k e h = ap (among ks) e ∙ h

-- ---- first tokens, in the order in which the forms are told apart

abbrev pub guarded_words : List Terminal
guarded_words = t.Synchronized ∷ t.Try ∷ expression_words

abbrev pub left_words : List Terminal
left_words = t.Break ∷ t.Continue ∷ t.Return ∷ t.Throw ∷ guarded_words

abbrev pub looped_words : List Terminal
looped_words = t.While ∷ t.Do ∷ t.For ∷ left_words

abbrev pub branched_words : List Terminal
branched_words = t.If ∷ t.Switch ∷ looped_words

abbrev pub empty_words : List Terminal
empty_words = t.Semicolon ∷ branched_words

abbrev pub statement_words : List Terminal
statement_words = t.LeftBrace ∷ empty_words

abbrev pub block_words : List Terminal
block_words = t.Final ∷ t.Int ∷ t.Long ∷ t.Boolean ∷ t.Char ∷ statement_words

abbrev pub member_words : List Terminal
member_words = t.Case ∷ t.Default ∷ block_words

-- what never follows a statement in a list of some
abbrev pub no_follow : List Terminal
no_follow = t.Else ∷ t.Catch ∷ t.Finally ∷ []

-- of a first token of a member
abbrev pub First : Terminal → Type 0
First x = (same_terminal x t.RightBrace ≡ false) × ((among no_follow x ≡ false) × (same_terminal x t.Other ≡ false))

expression_first : (x : Terminal) → among expression_words x ≡ true → First x
unfolding same_terminal
expression_first = each First expression_words
    ((refl, (refl, refl)), ((refl, (refl, refl)), ((refl, (refl, refl)), ((refl, (refl, refl)), ((refl, (refl, refl)), ((refl, (refl, refl)), ((refl, (refl, refl)), ((refl, (refl, refl)), ((refl, (refl, refl)), ((refl, (refl, refl)), ((refl, (refl, refl)), ((refl, (refl, refl)), ((refl, (refl, refl)), ((refl, (refl, refl)), ((refl, (refl, refl)), ((refl, (refl, refl)), ((refl, (refl, refl)), ((refl, (refl, refl)), tt))))))))))))))))))

abbrev word_part : List Terminal
word_part = t.Case ∷ t.Default ∷ t.Final ∷ t.Int ∷ t.Long ∷ t.Boolean ∷ t.Char ∷ t.LeftBrace ∷ t.Semicolon ∷ t.If ∷ t.Switch ∷ t.While ∷ t.Do ∷ t.For ∷ t.Break ∷ t.Continue ∷ t.Return ∷ t.Throw ∷ t.Synchronized ∷ t.Try ∷ []

word_first : (x : Terminal) → among word_part x ≡ true → First x
unfolding same_terminal
word_first = each First word_part
    ((refl, (refl, refl)), ((refl, (refl, refl)), ((refl, (refl, refl)), ((refl, (refl, refl)), ((refl, (refl, refl)), ((refl, (refl, refl)), ((refl, (refl, refl)), ((refl, (refl, refl)), ((refl, (refl, refl)), ((refl, (refl, refl)), ((refl, (refl, refl)), ((refl, (refl, refl)), ((refl, (refl, refl)), ((refl, (refl, refl)), ((refl, (refl, refl)), ((refl, (refl, refl)), ((refl, (refl, refl)), ((refl, (refl, refl)), ((refl, (refl, refl)), ((refl, (refl, refl)), tt))))))))))))))))))))

abbrev joined : List Terminal → List Terminal → List Terminal
joined [] ys = ys
joined (x ∷ xs) ys = x ∷ joined xs ys

joined_cases : (xs ys : List Terminal) (x : Terminal) → among (joined xs ys) x ≡ true → (among xs x ≡ true) ⊎ (among ys x ≡ true)
joined_cases [] ys x e = inr e
joined_cases (k ∷ xs) ys x e = elim (or_cases (same_terminal x k) (among (joined xs ys) x) e) [
  | inl y ↦ inl (or_left _ _ y)
  | inr y ↦ elim (joined_cases xs ys x y) [ inl z ↦ inl (or_right (same_terminal x k) (among xs x) z) | inr z ↦ inr z ]
]

pub member_first : (x : Terminal) → among member_words x ≡ true → First x
member_first x e = elim (joined_cases word_part expression_words x e) [ inl y ↦ word_first x y | inr y ↦ expression_first x y ]

-- the tests that tell the forms apart
pub after_guard : (x : Terminal) → among expression_words x ≡ true → among guard_words x ≡ false
unfolding same_terminal
after_guard = each (λ x. among guard_words x ≡ false) expression_words (refl, (refl, (refl, (refl, (refl, (refl, (refl, (refl, (refl, (refl, (refl, (refl, (refl, (refl, (refl, (refl, (refl, (refl, tt))))))))))))))))))

pub after_leave : (x : Terminal) → among guarded_words x ≡ true → among leave_words x ≡ false
unfolding same_terminal
after_leave = each (λ x. among leave_words x ≡ false) guarded_words (refl, (refl, (refl, (refl, (refl, (refl, (refl, (refl, (refl, (refl, (refl, (refl, (refl, (refl, (refl, (refl, (refl, (refl, (refl, (refl, tt))))))))))))))))))))

pub after_loop : (x : Terminal) → among left_words x ≡ true → among loop_words x ≡ false
unfolding same_terminal
after_loop = each (λ x. among loop_words x ≡ false) left_words (refl, (refl, (refl, (refl, (refl, (refl, (refl, (refl, (refl, (refl, (refl, (refl, (refl, (refl, (refl, (refl, (refl, (refl, (refl, (refl, (refl, (refl, (refl, (refl, tt))))))))))))))))))))))))

pub after_branch : (x : Terminal) → among looped_words x ≡ true → among branch_words x ≡ false
unfolding same_terminal
after_branch = each (λ x. among branch_words x ≡ false) looped_words (refl, (refl, (refl, (refl, (refl, (refl, (refl, (refl, (refl, (refl, (refl, (refl, (refl, (refl, (refl, (refl, (refl, (refl, (refl, (refl, (refl, (refl, (refl, (refl, (refl, (refl, (refl, tt)))))))))))))))))))))))))))

pub after_empty : (x : Terminal) → among branched_words x ≡ true → same_terminal x t.Semicolon ≡ false
unfolding same_terminal
after_empty = each (λ x. same_terminal x t.Semicolon ≡ false) branched_words (refl, (refl, (refl, (refl, (refl, (refl, (refl, (refl, (refl, (refl, (refl, (refl, (refl, (refl, (refl, (refl, (refl, (refl, (refl, (refl, (refl, (refl, (refl, (refl, (refl, (refl, (refl, (refl, (refl, tt)))))))))))))))))))))))))))))

pub after_brace : (x : Terminal) → among empty_words x ≡ true → same_terminal x t.LeftBrace ≡ false
unfolding same_terminal
after_brace = each (λ x. same_terminal x t.LeftBrace ≡ false) empty_words (refl, (refl, (refl, (refl, (refl, (refl, (refl, (refl, (refl, (refl, (refl, (refl, (refl, (refl, (refl, (refl, (refl, (refl, (refl, (refl, (refl, (refl, (refl, (refl, (refl, (refl, (refl, (refl, (refl, (refl, tt))))))))))))))))))))))))))))))

abbrev LabelFacts : Terminal → Type 0
LabelFacts x = (same_terminal x t.Case ≡ false) × (same_terminal x t.Default ≡ false)

expression_label : (x : Terminal) → among expression_words x ≡ true → LabelFacts x
unfolding same_terminal
expression_label = each LabelFacts expression_words ((refl, refl), ((refl, refl), ((refl, refl), ((refl, refl), ((refl, refl), ((refl, refl), ((refl, refl), ((refl, refl), ((refl, refl), ((refl, refl), ((refl, refl), ((refl, refl), ((refl, refl), ((refl, refl), ((refl, refl), ((refl, refl), ((refl, refl), ((refl, refl), tt))))))))))))))))))

abbrev block_part : List Terminal
block_part = t.Final ∷ t.Int ∷ t.Long ∷ t.Boolean ∷ t.Char ∷ t.LeftBrace ∷ t.Semicolon ∷ t.If ∷ t.Switch ∷ t.While ∷ t.Do ∷ t.For ∷ t.Break ∷ t.Continue ∷ t.Return ∷ t.Throw ∷ t.Synchronized ∷ t.Try ∷ []

block_label : (x : Terminal) → among block_part x ≡ true → LabelFacts x
unfolding same_terminal
block_label = each LabelFacts block_part ((refl, refl), ((refl, refl), ((refl, refl), ((refl, refl), ((refl, refl), ((refl, refl), ((refl, refl), ((refl, refl), ((refl, refl), ((refl, refl), ((refl, refl), ((refl, refl), ((refl, refl), ((refl, refl), ((refl, refl), ((refl, refl), ((refl, refl), ((refl, refl), tt))))))))))))))))))

pub not_label : (x : Terminal) → among block_words x ≡ true → LabelFacts x
not_label x e = elim (joined_cases block_part expression_words x e) [ inl y ↦ block_label x y | inr y ↦ expression_label x y ]

-- the words that begin a declaration
abbrev pub type_part : List Terminal
type_part = t.Final ∷ t.Word ∷ t.Int ∷ t.Long ∷ t.Boolean ∷ t.Char ∷ []

-- the words that begin a statement but no expression
abbrev pub keyword_part : List Terminal
keyword_part = t.LeftBrace ∷ t.Semicolon ∷ t.If ∷ t.Switch ∷ t.While ∷ t.Do ∷ t.For ∷ t.Break ∷ t.Continue ∷ t.Return ∷ t.Throw ∷ t.Synchronized ∷ t.Try ∷ []

no_declaration_word : (x : Terminal) → among keyword_part x ≡ true → (same_terminal x t.Final ≡ false) × ((among primitives x ≡ false) × (same_terminal x t.Word ≡ false))
unfolding same_terminal
no_declaration_word = each (λ x. (same_terminal x t.Final ≡ false) × ((among primitives x ≡ false) × (same_terminal x t.Word ≡ false))) keyword_part
    ((refl, (refl, refl)), ((refl, (refl, refl)), ((refl, (refl, refl)), ((refl, (refl, refl)), ((refl, (refl, refl)), ((refl, (refl, refl)), ((refl, (refl, refl)), ((refl, (refl, refl)), ((refl, (refl, refl)), ((refl, (refl, refl)), ((refl, (refl, refl)), ((refl, (refl, refl)), ((refl, (refl, refl)), tt)))))))))))))

pub keyword_declares : (s : Text) (i : ℕ) (k : Terminal) → terminal (s i) ≡ k → among keyword_part k ≡ true → declares s i ≡ false
keyword_declares s i k e h =
    let w = no_declaration_word (terminal (s i)) (is_among keyword_part _ k e h) in
    or_none _ _ w.0 (or_none _ _ w.1.0 (and_first _ _ w.1.1))

-- ---- what dangles

pub if_dangles : (at : Span) (test : ExprTree) (body : StmtTree) → dangles (stmt.If at test body) ≡ true
unfolding dangles
if_dangles at test body = ap dangles (sym (stmt.rolls-If at test body)) ∙ fold-roll-StmtTree Bool dangles_form (StmtTree-F.If at test body)

pub block_dangles : (at : Span) (body : List StmtTree) (end : Span) → dangles (stmt.Block at body end) ≡ false
unfolding dangles
block_dangles at body end = ap dangles (sym (stmt.rolls-Block at body end)) ∙ fold-roll-StmtTree Bool dangles_form (StmtTree-F.Block at body end)

pub empty_dangles : (at : Span) → dangles (stmt.Empty at) ≡ false
unfolding dangles
empty_dangles at = ap dangles (sym (stmt.rolls-Empty at)) ∙ fold-roll-StmtTree Bool dangles_form (StmtTree-F.Empty at)

pub local_dangles : (at : Span) (is_final : Bool) (holds : TypeTree) (variables : List VariableTree) → dangles (stmt.Local at is_final holds variables) ≡ false
unfolding dangles
local_dangles at is_final holds variables = ap dangles (sym (stmt.rolls-Local at is_final holds variables)) ∙ fold-roll-StmtTree Bool dangles_form (StmtTree-F.Local at is_final holds variables)

pub expression_dangles : (at : Span) (value : ExprTree) → dangles (stmt.Expression at value) ≡ false
unfolding dangles
expression_dangles at value = ap dangles (sym (stmt.rolls-Expression at value)) ∙ fold-roll-StmtTree Bool dangles_form (StmtTree-F.Expression at value)

pub ifelse_dangles : (at : Span) (test : ExprTree) (body : StmtTree) (other : StmtTree) → dangles (stmt.IfElse at test body other) ≡ dangles other
unfolding dangles
ifelse_dangles at test body other = ap dangles (sym (stmt.rolls-IfElse at test body other)) ∙ fold-roll-StmtTree Bool dangles_form (StmtTree-F.IfElse at test body other)

pub while_dangles : (at : Span) (test : ExprTree) (body : StmtTree) → dangles (stmt.While at test body) ≡ dangles body
unfolding dangles
while_dangles at test body = ap dangles (sym (stmt.rolls-While at test body)) ∙ fold-roll-StmtTree Bool dangles_form (StmtTree-F.While at test body)

pub do_dangles : (at : Span) (body : StmtTree) (test : ExprTree) → dangles (stmt.Do at body test) ≡ false
unfolding dangles
do_dangles at body test = ap dangles (sym (stmt.rolls-Do at body test)) ∙ fold-roll-StmtTree Bool dangles_form (StmtTree-F.Do at body test)

pub for_dangles : (at : Span) (init : List StmtTree) (test : Option ExprTree) (update : List ExprTree) (body : StmtTree) → dangles (stmt.For at init test update body) ≡ dangles body
unfolding dangles
for_dangles at init test update body = ap dangles (sym (stmt.rolls-For at init test update body)) ∙ fold-roll-StmtTree Bool dangles_form (StmtTree-F.For at init test update body)

pub foreach_dangles : (at : Span) (is_final : Bool) (holds : TypeTree) (name : NamedPlace) (ranges : ExprTree) (body : StmtTree) → dangles (stmt.ForEach at is_final holds name ranges body) ≡ dangles body
unfolding dangles
foreach_dangles at is_final holds name ranges body = ap dangles (sym (stmt.rolls-ForEach at is_final holds name ranges body)) ∙ fold-roll-StmtTree Bool dangles_form (StmtTree-F.ForEach at is_final holds name ranges body)

pub switch_dangles : (at : Span) (value : ExprTree) (members : List StmtTree) → dangles (stmt.Switch at value members) ≡ false
unfolding dangles
switch_dangles at value members = ap dangles (sym (stmt.rolls-Switch at value members)) ∙ fold-roll-StmtTree Bool dangles_form (StmtTree-F.Switch at value members)

pub case_dangles : (at : Span) (value : ExprTree) → dangles (stmt.Case at value) ≡ false
unfolding dangles
case_dangles at value = ap dangles (sym (stmt.rolls-Case at value)) ∙ fold-roll-StmtTree Bool dangles_form (StmtTree-F.Case at value)

pub default_dangles : (at : Span) → dangles (stmt.Default at) ≡ false
unfolding dangles
default_dangles at = ap dangles (sym (stmt.rolls-Default at)) ∙ fold-roll-StmtTree Bool dangles_form (StmtTree-F.Default at)

pub labelled_dangles : (at : Span) (label : List ℕ) (body : StmtTree) → dangles (stmt.Labelled at label body) ≡ dangles body
unfolding dangles
labelled_dangles at label body = ap dangles (sym (stmt.rolls-Labelled at label body)) ∙ fold-roll-StmtTree Bool dangles_form (StmtTree-F.Labelled at label body)

pub break_dangles : (at : Span) (label : Option NamedPlace) → dangles (stmt.Break at label) ≡ false
unfolding dangles
break_dangles at label = ap dangles (sym (stmt.rolls-Break at label)) ∙ fold-roll-StmtTree Bool dangles_form (StmtTree-F.Break at label)

pub continue_dangles : (at : Span) (label : Option NamedPlace) → dangles (stmt.Continue at label) ≡ false
unfolding dangles
continue_dangles at label = ap dangles (sym (stmt.rolls-Continue at label)) ∙ fold-roll-StmtTree Bool dangles_form (StmtTree-F.Continue at label)

pub return_dangles : (at : Span) (value : Option ExprTree) → dangles (stmt.Return at value) ≡ false
unfolding dangles
return_dangles at value = ap dangles (sym (stmt.rolls-Return at value)) ∙ fold-roll-StmtTree Bool dangles_form (StmtTree-F.Return at value)

pub throw_dangles : (at : Span) (value : ExprTree) → dangles (stmt.Throw at value) ≡ false
unfolding dangles
throw_dangles at value = ap dangles (sym (stmt.rolls-Throw at value)) ∙ fold-roll-StmtTree Bool dangles_form (StmtTree-F.Throw at value)

pub synchronized_dangles : (at : Span) (lock : ExprTree) (body : StmtTree) → dangles (stmt.Synchronized at lock body) ≡ false
unfolding dangles
synchronized_dangles at lock body = ap dangles (sym (stmt.rolls-Synchronized at lock body)) ∙ fold-roll-StmtTree Bool dangles_form (StmtTree-F.Synchronized at lock body)

pub synchronizedclass_dangles : (at : Span) (class : NamedPlace) (body : StmtTree) → dangles (stmt.SynchronizedClass at class body) ≡ false
unfolding dangles
synchronizedclass_dangles at class body = ap dangles (sym (stmt.rolls-SynchronizedClass at class body)) ∙ fold-roll-StmtTree Bool dangles_form (StmtTree-F.SynchronizedClass at class body)

pub try_dangles : (at : Span) (body : StmtTree) (catches : List StmtTree) → dangles (stmt.Try at body catches) ≡ false
unfolding dangles
try_dangles at body catches = ap dangles (sym (stmt.rolls-Try at body catches)) ∙ fold-roll-StmtTree Bool dangles_form (StmtTree-F.Try at body catches)

pub tryfinally_dangles : (at : Span) (body : StmtTree) (catches : List StmtTree) (finally : StmtTree) → dangles (stmt.TryFinally at body catches finally) ≡ false
unfolding dangles
tryfinally_dangles at body catches finally = ap dangles (sym (stmt.rolls-TryFinally at body catches finally)) ∙ fold-roll-StmtTree Bool dangles_form (StmtTree-F.TryFinally at body catches finally)

pub jump_dangles : (k : Terminal) (at : Span) (label : Option NamedPlace) → dangles (jump k at label) ≡ false
jump_dangles t.Break at label = break_dangles at label
jump_dangles _ at label = continue_dangles at label
