-- Printed parameters and results are read again [JLS 8.4.1, 8.4.5].
use Rattle.std.proofs.Common.{map, ◌≡◌, ℕ, Bool, List, [], Option, Some, None, refl, sym, ap, ◌∙◌, subst}
use Rattle.std.specs.Prelude.{codes, option_map}
use Rattle.bj_base.specs.declared.span.Span.{Span}
use Rattle.bj_expr_tree.specs.declared.types.NamedPlace.{NamedPlace}
use Rattle.bj_expr_tree.specs.declared.types.TypeTree.{TypeTree}
use Rattle.bj_tree.specs.declared.member.ParameterTree.{ParameterTree}
use Rattle.bj_grammar.specs.Reader.{Text}
use Rattle.bj_stmt.specs.Grammar.{named}
use Rattle.bj_class.specs.Grammar as g
use Rattle.bj_class.specs.Grammar.{Parameter, Parameters, Formals, ResultAt}
use Rattle.bj_writer.specs.Pieces.{tokens_of}
use Rattle.bj_layout.specs.Exprs.{comma, with_commas, type_pieces}
use Rattle.bj_layout.specs.Stmts.{maybe_final}
use Rattle.bj_layout.specs.Classes.{parameter_pieces, formals, result_pieces}
use Rattle.bj_print.specs.Same.{nowhere, unplaced_name, unplaced_type, unplaced_parameter}
use Rattle.bj_print.proofs.Holds.{Back}
use Rattle.bj_print.proofs.ExprLaws.{ExprLaws, SameType}
use Rattle.bj_print.proofs.ExprTokens.{keyed, signed}
use Rattle.bj_print.proofs.Again.{Reads, reads_mark, reads_last, reads_as, reads_parts}
use Rattle.bj_print.proofs.RowBack.{SameBy, SameAll, HasOne, has_only, has_more, FoundOne, FoundParted, one_part, more_parts}
use Rattle.bj_print.proofs.NamesBack.{same_name_text}
use Rattle.bj_print.proofs.SmallBack.{final_found, type_found, dims_found}

-- ---- one parameter

abbrev parameter_of : Span → Bool → TypeTree → NamedPlace → ℕ → ParameterTree
parameter_of at f ty name d = record { at = at; is_final = f; of = ty; name = name; dims = d }

same_parameter : (at at2 : Span) (f : Bool) (ty ty2 : TypeTree) (name name2 : NamedPlace) (d : ℕ) → SameType ty2 ty → SameBy unplaced_name name2 name
    → SameBy unplaced_parameter (parameter_of at2 f ty2 name2 d) (parameter_of at f ty name d)
same_parameter at at2 f ty ty2 name name2 d e h = ap (λ (z : TypeTree). parameter_of nowhere f z (unplaced_name name2) d) e ∙ ap (λ (z : NamedPlace). parameter_of nowhere f (unplaced_type ty) z d) h

-- ---- what is found again

abbrev pub SameResult : Option TypeTree → Option TypeTree → Type 0
SameResult a b = option_map unplaced_type a ≡ option_map unplaced_type b

abbrev pub FoundResult : (ℕ → Span) → Text → Option TypeTree → Type 0
FoundResult other t a = Reads t (tokens_of (result_pieces a)) (Back (ResultAt other t) SameResult a)

abbrev pub FoundFormals : (ℕ → Span) → Text → List ParameterTree → Type 0
FoundFormals other t a = Reads t (tokens_of (formals a)) (Back (Formals other t) (SameAll unplaced_parameter) a)

module _ (place : ℕ → Span) (s : Text) (other : ℕ → Span) (t : Text) (exprs : ExprLaws place s other t) where
  parameter_again : {a : ParameterTree} {i j : ℕ} → Parameter place s a i j → FoundOne t unplaced_parameter parameter_pieces (Parameter other t) a
  parameter_again {i = i} (g.parameter {f = f} {ty = ty} {d = d} {n = n} d1 d2 o d3 is) = subst (FoundOne t unplaced_parameter parameter_pieces (Parameter other t)) (sym is)
      (reads_as
      (reads_parts (maybe_final f) _ (final_found t f) (reads_parts (type_pieces ty) _ (type_found place s other t exprs d2) (reads_mark _ (dims_found place s other t exprs d3))))
      (λ k j h. let name = h.second.middle in record {
        tree = parameter_of (other k) f h.second.first.tree (named (other name) (t name)) d;
        stands = g.parameter h.first h.second.first.stands h.second.second.is h.second.second.rest refl;
        same = same_parameter (place i) (other k) f ty h.second.first.tree (named (place n) (s n)) (named (other name) (t name)) d h.second.first.same
            (same_name_text (place n) (other name) (s n) (t name) h.second.second.token);
      }))

  -- ---- parameters in parentheses

  parameters_some : {a : List ParameterTree} {i j : ℕ} → Parameters place s a i j → HasOne a
  parameters_some (g.first_parameter d is) = has_only is
  parameters_some (g.next_parameter {x = x} d o e is) = has_more x (parameters_some d) is

  parameters_again : {a : List ParameterTree} {i j : ℕ} → Parameters place s a i j → FoundParted t unplaced_parameter comma parameter_pieces (Parameters other t) a
  parameters_again (g.first_parameter d is) = one_part t unplaced_parameter parameter_pieces (Parameter other t) (Parameters other t) comma (codes ",") refl
      (λ y k j e. g.first_parameter e refl) (parameter_again d) is
  parameters_again (g.next_parameter d o e is) = more_parts t unplaced_parameter parameter_pieces (Parameter other t) (Parameters other t) comma (codes ",") refl
      (λ c y k m j all o e. g.next_parameter all o e refl) (parameters_some d) (parameters_again d) (parameter_again e) is

  pub formals_again : {a : List ParameterTree} {i j : ℕ} → Formals place s a i j → FoundFormals other t a
  formals_again (g.no_formals o o2 is at) = subst (FoundFormals other t) (sym is) (reads_as (reads_mark (signed (codes "(")) (reads_last (signed (codes ")")))) (λ k j f. record {
    tree = [];
    stands = g.no_formals f.is f.rest.is refl f.rest.rest;
    same = refl;
  }))
  formals_again {a} (g.formals o d o2 at) = reads_as (reads_mark _ (reads_parts (with_commas (map parameter_pieces a)) _ (parameters_again d) (reads_last _))) (λ k j f. record {
    tree = f.rest.first.tree;
    stands = g.formals f.is f.rest.first.stands f.rest.second.is f.rest.second.rest;
    same = f.rest.first.same;
  })

  -- ---- results

  pub result_again : {a : Option TypeTree} {i j : ℕ} → ResultAt place s a i j → FoundResult other t a
  result_again (g.void o is at) = subst (FoundResult other t) (sym is) (reads_as (reads_last (keyed (codes "void"))) (λ k j f. record {
    tree = None;
    stands = g.void f.is refl f.rest;
    same = refl;
  }))
  result_again (g.gives d is) = subst (FoundResult other t) (sym is) (reads_as (type_found place s other t exprs d) (λ k j f. record {
    tree = Some f.tree;
    stands = g.gives f.stands refl;
    same = ap (λ (z : TypeTree). Some z) f.same;
  }))
