-- A class that is the same but for places fits where the other one does, and is no deeper.
use Rattle.std.proofs.Common.{ℕ, suc, ◌<◌, List, [], ◌∷◌, map, Option, Some, None, option_map, inl, inr, sym, ap, ◌∙◌, subst}
use Rattle.bj_tree.specs.declared.stmt.StmtTree.{StmtTree}
use Rattle.bj_tree.specs.declared.class.ClassKind.{ClassKind}
use Rattle.bj_tree.specs.declared.class.ImportTree.{ImportTree}
use Rattle.bj_tree.specs.declared.class.ClassTree.{ClassTree}
use Rattle.bj_tree.specs.declared.member.MemberTree.{MemberTree}
use Rattle.bj_tree.specs.declared.member.MemberTree.TheVariants as m
use Rattle.bj_expr_tree.specs.Size.{most}
use Rattle.bj_class.specs.Deep.{HighBody, HighMember, HighMembers}
use Rattle.bj_rules.specs.Rules.{import_misfit, head_misfit, member_misfit}
use Rattle.bj_parse.specs.Class.{ImportsFit, MembersFit, Fits}
use Rattle.bj_print.specs.Same.{unplaced_stmt, unplaced_modifier, unplaced_annotation, unplaced_import, unplaced_member, unplaced_class, SameClass}
use Rattle.bj_print.proofs.HeightsSteady.{of_variables, height_steady}
use Rattle.bj_print.proofs.FitsSteady.{is_none, none_is, import_steady, head_steady, member_steady}

-- ---- what fits

imports_out : (xs : List ImportTree) → ImportsFit xs → ImportsFit (map unplaced_import xs)
imports_out [] f = tt
imports_out (x ∷ xs) f = (none_is (import_misfit (unplaced_import x)) (import_steady x ∙ ap is_none f.0), imports_out xs f.1)

imports_back : (xs : List ImportTree) → ImportsFit (map unplaced_import xs) → ImportsFit xs
imports_back [] f = tt
imports_back (x ∷ xs) f = (none_is (import_misfit x) (sym (import_steady x) ∙ ap is_none f.0), imports_back xs f.1)

members_out : (kind : ClassKind) (class : List ℕ) (xs : List MemberTree) → MembersFit kind class xs → MembersFit kind class (map unplaced_member xs)
members_out kind class [] f = tt
members_out kind class (x ∷ xs) f = (none_is (member_misfit kind class (unplaced_member x)) (member_steady kind class x ∙ ap is_none f.0), members_out kind class xs f.1)

members_back : (kind : ClassKind) (class : List ℕ) (xs : List MemberTree) → MembersFit kind class (map unplaced_member xs) → MembersFit kind class xs
members_back kind class [] f = tt
members_back kind class (x ∷ xs) f = (none_is (member_misfit kind class x) (sym (member_steady kind class x) ∙ ap is_none f.0), members_back kind class xs f.1)

fits_out : (a : ClassTree) → Fits a → Fits (unplaced_class a)
fits_out a f = record {
  imports = imports_out a.imports f.imports;
  head = none_is (head_misfit (map unplaced_annotation a.annotations) (map unplaced_modifier a.modifiers) a.kind) (head_steady a.annotations a.modifiers a.kind ∙ ap is_none f.head);
  members = members_out a.kind a.name.name a.members f.members;
}

fits_back : (a : ClassTree) → Fits (unplaced_class a) → Fits a
fits_back a f = record {
  imports = imports_back a.imports f.imports;
  head = none_is (head_misfit a.annotations a.modifiers a.kind) (sym (head_steady a.annotations a.modifiers a.kind) ∙ ap is_none f.head);
  members = members_back a.kind a.name.name a.members f.members;
}

pub same_fits : (b a : ClassTree) → SameClass b a → Fits a → Fits b
same_fits b a same f = fits_back b (subst Fits (sym same) (fits_out a f))

-- ---- how deep

body_out : (room : ℕ) (x : Option StmtTree) → HighBody room x → HighBody room (option_map unplaced_stmt x)
body_out room None d = d
body_out room (Some x) d = subst (λ (n : ℕ). room < n) (sym (height_steady x)) d

body_back : (room : ℕ) (x : Option StmtTree) → HighBody room (option_map unplaced_stmt x) → HighBody room x
body_back room None d = d
body_back room (Some x) d = subst (λ (n : ℕ). room < n) (height_steady x) d

member_out : (room : ℕ) (x : MemberTree) → HighMember room x → HighMember room (unplaced_member x)
member_out room (m.Field f) d = subst (λ (ns : List ℕ). suc room < most ns) (sym (of_variables f.variables)) d
member_out room (m.Method f) d = body_out room f.body d
member_out room (m.Constructor f) d = subst (λ (n : ℕ). room < n) (sym (height_steady f.body)) d
member_out room (m.Initializer f) d = subst (λ (n : ℕ). room < n) (sym (height_steady f.body)) d
member_out room (m.Empty at) d = d

member_back : (room : ℕ) (x : MemberTree) → HighMember room (unplaced_member x) → HighMember room x
member_back room (m.Field f) d = subst (λ (ns : List ℕ). suc room < most ns) (of_variables f.variables) d
member_back room (m.Method f) d = body_back room f.body d
member_back room (m.Constructor f) d = subst (λ (n : ℕ). room < n) (height_steady f.body) d
member_back room (m.Initializer f) d = subst (λ (n : ℕ). room < n) (height_steady f.body) d
member_back room (m.Empty at) d = d

deep_out : (room : ℕ) (xs : List MemberTree) → HighMembers room xs → HighMembers room (map unplaced_member xs)
deep_out room [] d = d
deep_out room (x ∷ xs) (inl d) = inl (member_out room x d)
deep_out room (x ∷ xs) (inr d) = inr (deep_out room xs d)

deep_back : (room : ℕ) (xs : List MemberTree) → HighMembers room (map unplaced_member xs) → HighMembers room xs
deep_back room [] d = d
deep_back room (x ∷ xs) (inl d) = inl (member_back room x d)
deep_back room (x ∷ xs) (inr d) = inr (deep_back room xs d)

pub same_deep : (room : ℕ) (b a : ClassTree) → SameClass b a → HighMembers room b.members → HighMembers room a.members
same_deep room b a same d = deep_back room a.members (subst (λ (c : ClassTree). HighMembers room c.members) same (deep_out room b.members d))
