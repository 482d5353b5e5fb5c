-- The reader of files with their classes, as a function on texts.
use Rattle.std.specs.Prelude.{ℕ, zero, suc, Bool, true, false, ◌&&◌, if◌then◌else◌, List, [], ◌∷◌, ◌++◌, Option, Some, None}
use Rattle.std.specs.Str.{bytes_eq}
use Rattle.bj_base.specs.declared.span.Span.{Span}
use Rattle.bj_token.specs.declared.token.Token.{Token}
use Rattle.bj_expr_tree.specs.declared.types.NamedPlace.{NamedPlace}
use Rattle.bj_expr_tree.specs.declared.types.TypeTree.{TypeTree}
use Rattle.bj_tree.specs.declared.stmt.StmtTree.{StmtTree}
use Rattle.bj_tree.specs.declared.class.Modifier.{Modifier}
use Rattle.bj_tree.specs.declared.class.AnnotationTree.{AnnotationTree}
use Rattle.bj_tree.specs.declared.class.ImportTree.{ImportTree}
use Rattle.bj_tree.specs.declared.class.ClassKind.TheVariants as forms
use Rattle.bj_tree.specs.declared.class.ClassTree.{ClassTree}
use Rattle.bj_tree.specs.declared.member.ParameterTree.{ParameterTree}
use Rattle.bj_tree.specs.declared.member.MemberTree.{MemberTree}
use Rattle.bj_tree.specs.declared.member.MemberTree.TheVariants as m
use Rattle.bj_grammar.specs.declared.terminal.Terminal.{Terminal}
use Rattle.bj_grammar.specs.declared.terminal.Terminal.TheVariants as t
use Rattle.bj_grammar.specs.Terminal.{terminal, same_terminal, among}
use Rattle.bj_grammar.specs.Reader.{Text, Found, Wrong, Parser, ◌>>=◌, pure, over, nowhere, here, operator, sign, ahead, choose, loop}
use Rattle.bj_expr.specs.Reading.{is, dims, type_at}
use Rattle.bj_stmt.specs.declared.part.StmtPart.{StmtPart}
use Rattle.bj_stmt.specs.declared.part.StmtPart.TheVariants as p
use Rattle.bj_stmt.specs.Reading.{maybe_final, name_at, variables, nested, inside}
use Rattle.bj_class.specs.declared.head.ClassHead.{ClassHead}
use Rattle.bj_class.specs.Grammar.{expected, modifier_words, modifier, class_tree}

-- ---- the next tokens

-- a word that is spelled so
abbrev pub is_spelled : List ℕ → Token → Bool
is_spelled units token = same_terminal (terminal token) t.Word && bytes_eq token.text units

-- such a word, and then the rest
abbrev pub spelled : {A : Type 0} → List ℕ → Parser A → Parser A
spelled units q = λ s i. if is_spelled units (s i) then q s (suc i) else Wrong i

-- whether a static initializer stands at a place
abbrev pub is_static_block : Text → ℕ → Bool
is_static_block s i = same_terminal (terminal (s i)) t.Static && same_terminal (terminal (s (suc i))) t.LeftBrace

-- whether a name with parentheses behind it stands at a place
abbrev pub is_called : Text → ℕ → Bool
is_called s i = same_terminal (terminal (s i)) t.Word && same_terminal (terminal (s (suc i))) t.LeftParen

-- ---- small parts

unfoldable pub maybe_static : Parser Bool
maybe_static = choose (is t.Static) (sign t.Static (pure true)) (pure false)

-- Given where each token stands, and how many steps a loop may take.
module _ (place : ℕ → Span) (most : ℕ) where
  unfoldable pub next_name : List NamedPlace → Parser (List NamedPlace)
  next_name b = sign t.Comma (name_at place most >>= λ x. pure (b ++ x ∷ []))

  -- names with commas between them
  unfoldable pub names : Parser (List NamedPlace)
  names = (name_at place most >>= λ x. pure (x ∷ [])) >>= loop most (is t.Comma) next_name

  unfoldable pub maybe_names : Terminal → Parser (List NamedPlace)
  maybe_names keyword = choose (is keyword) (sign keyword names) (pure [])

  -- ---- imports

  -- the names behind some, each after a dot, and whether `.*` ends them
  unfoldable pub more_names : ℕ → List NamedPlace → Parser (List NamedPlace × Bool)
  more_names zero b = choose (is t.Dot) (over (λ _. nowhere)) (pure (b, false))
  more_names (suc n) b = choose (is t.Dot) (sign t.Dot (choose (is t.Times) (sign t.Times (pure (b, true))) (name_at place most >>= λ x. more_names n (b ++ x ∷ [])))) (pure (b, false))

  unfoldable pub imported : Parser (List NamedPlace × Bool)
  imported = name_at place most >>= λ x. more_names most (x ∷ [])

  unfoldable pub import_at : Parser ImportTree
  import_at = here (λ i. sign t.Import (maybe_static >>= λ f. imported >>= λ d. sign t.Semicolon (pure (record { at = place i; is_static = f; names = d.0; is_on_demand = d.1 }))))

  unfoldable pub next_import : List ImportTree → Parser (List ImportTree)
  next_import b = import_at >>= λ c. pure (b ++ c ∷ [])

  unfoldable pub imports : Parser (List ImportTree)
  imports = pure [] >>= loop most (is t.Import) next_import

  -- ---- annotations and modifiers

  -- the class for `expected` in parentheses
  unfoldable pub expecting : Parser NamedPlace
  expecting = sign t.LeftParen (spelled expected (sign t.Assign (name_at place most >>= λ c. sign t.Dot (sign t.Class (sign t.RightParen (pure c))))))

  unfoldable pub maybe_expecting : Parser (Option NamedPlace)
  maybe_expecting = choose (is t.LeftParen) (expecting >>= λ c. pure (Some c)) (pure None)

  unfoldable pub annotation : Parser AnnotationTree
  annotation = here (λ i. sign t.At (name_at place most >>= λ x. maybe_expecting >>= λ c. pure (record { at = place i; name = x; expected = c })))

  unfoldable pub next_annotation : List AnnotationTree → Parser (List AnnotationTree)
  next_annotation b = annotation >>= λ c. pure (b ++ c ∷ [])

  unfoldable pub annotations : Parser (List AnnotationTree)
  annotations = pure [] >>= loop most (is t.At) next_annotation

  unfoldable pub next_modifier : List Modifier → Parser (List Modifier)
  next_modifier b = here (λ i. operator (among modifier_words) (λ v. pure (b ++ modifier (place i) v ∷ [])))

  unfoldable pub modifiers : Parser (List Modifier)
  modifiers = pure [] >>= loop most (among modifier_words) next_modifier

  -- ---- what stands before the members

  unfoldable pub maybe_super : Parser (Option NamedPlace)
  maybe_super = choose (is t.Extends) (sign t.Extends (name_at place most >>= λ x. pure (Some x))) (pure None)

  unfoldable pub class_rest : ℕ → List AnnotationTree → List Modifier → Parser ClassHead
  class_rest i notes ms = sign t.Class (name_at place most >>= λ v. maybe_super >>= λ x. maybe_names t.Implements >>= λ ns. sign t.LeftBrace
      (pure (record { at = place i; annotations = notes; modifiers = ms; kind = forms.Class; name = v; superclass = x; superinterfaces = ns })))

  unfoldable pub interface_rest : ℕ → List AnnotationTree → List Modifier → Parser ClassHead
  interface_rest i notes ms = sign t.Interface (name_at place most >>= λ v. maybe_names t.Extends >>= λ ns. sign t.LeftBrace
      (pure (record { at = place i; annotations = notes; modifiers = ms; kind = forms.Interface; name = v; superclass = None; superinterfaces = ns })))

  unfoldable pub head : Parser ClassHead
  head = here (λ i. annotations >>= λ notes. modifiers >>= λ ms. choose (is t.Interface) (interface_rest i notes ms) (class_rest i notes ms))

  -- ---- parameters

  unfoldable pub parameter : Parser ParameterTree
  parameter = here (λ i. maybe_final >>= λ f. type_at place most >>= λ ty. name_at place most >>= λ x. dims place most >>= λ d. pure (record { at = place i; is_final = f; of = ty; name = x; dims = d }))

  unfoldable pub next_parameter : List ParameterTree → Parser (List ParameterTree)
  next_parameter b = sign t.Comma (parameter >>= λ x. pure (b ++ x ∷ []))

  unfoldable pub parameters : Parser (List ParameterTree)
  parameters = (parameter >>= λ x. pure (x ∷ [])) >>= loop most (is t.Comma) next_parameter

  unfoldable pub formals : Parser (List ParameterTree)
  formals = sign t.LeftParen (choose (is t.RightParen) (sign t.RightParen (pure [])) (parameters >>= λ ps. sign t.RightParen (pure ps)))

  -- ---- members, given how many nodes may stand on the way down in a body or an initializer
  module _ (room : ℕ) where
    unfoldable pub maybe_body : Parser (Option StmtTree)
    maybe_body = choose (is t.Semicolon) (sign t.Semicolon (pure None)) (nested place most room p.Block >>= λ b. pure (Some b))

    unfoldable pub method_rest : ℕ → List AnnotationTree → List Modifier → Option TypeTree → NamedPlace → Parser MemberTree
    method_rest i notes ms r x = formals >>= λ ps. maybe_names t.Throws >>= λ ts. maybe_body >>= λ b.
        pure (m.Method (record { at = place i; annotations = notes; modifiers = ms; default = None; result = r; name = x; parameters = ps; throws = ts; body = b }))

    unfoldable pub void_method : ℕ → List AnnotationTree → List Modifier → Parser MemberTree
    void_method i notes ms = sign t.Void (name_at place most >>= λ x. method_rest i notes ms None x)

    unfoldable pub fields_rest : ℕ → List AnnotationTree → List Modifier → TypeTree → Parser MemberTree
    fields_rest i notes ms ty = variables place most room >>= λ vs. sign t.Semicolon
        (pure (m.Field (record { at = place i; annotations = notes; modifiers = ms; of = ty; variables = vs })))

    unfoldable pub typed : ℕ → List AnnotationTree → List Modifier → Parser MemberTree
    typed i notes ms = type_at place most >>= λ ty. ahead is_called (name_at place most >>= λ x. method_rest i notes ms (Some ty) x) (fields_rest i notes ms ty)

    unfoldable pub constructor : ℕ → List AnnotationTree → List Modifier → Parser MemberTree
    constructor i notes ms = name_at place most >>= λ x. formals >>= λ ps. maybe_names t.Throws >>= λ ts. nested place most room p.ConstructorBody >>= λ b.
        pure (m.Constructor (record { at = place i; annotations = notes; modifiers = ms; name = x; parameters = ps; throws = ts; body = b }))

    unfoldable pub declared : ℕ → Parser MemberTree
    declared i = annotations >>= λ notes. modifiers >>= λ ms. choose (is t.Void) (void_method i notes ms) (ahead is_called (constructor i notes ms) (typed i notes ms))

    unfoldable pub block_member : ℕ → Bool → Parser MemberTree
    block_member i f = nested place most room p.Block >>= λ b. pure (m.Initializer (record { at = place i; is_static = f; body = b }))

    unfoldable pub member : Parser MemberTree
    member = here (λ i. choose (is t.Semicolon) (sign t.Semicolon (pure (m.Empty (place i)))) (choose (is t.LeftBrace) (block_member i false)
        (ahead is_static_block (sign t.Static (block_member i true)) (declared i))))

    unfoldable pub next_member : List MemberTree → Parser (List MemberTree)
    next_member b = member >>= λ c. pure (b ++ c ∷ [])

    unfoldable pub members : Parser (List MemberTree)
    members = pure [] >>= loop most inside next_member

    -- ---- files

    unfoldable pub file_at : List ℕ → Parser ClassTree
    file_at file = imports >>= λ is. head >>= λ h. members >>= λ ms. here (λ o. sign t.RightBrace (pure (class_tree file is h ms (place o))))
