-- Identifiers and keywords [JLS 3.8, 3.9, 3.10.3, 3.10.7].
use Rattle.std.specs.Prelude.{ℕ, Bool, ◌||◌, List, if◌then◌else◌, codes, bytes_eq}
use Rattle.bj_lex.specs.declared.element.Element.{Element}
use Rattle.bj_lex.specs.declared.element.Element.TheVariants.{Token, Fault}
use Rattle.bj_token.specs.declared.token.TokenKind.TheVariants.{Word, Keyword}
use Rattle.bj_base.specs.declared.fault.FaultCode.TheVariants.{Profile}

abbrev pub is_word : List ℕ → List ℕ → Bool
is_word word us = bytes_eq us word

-- the keywords, `true`, `false` and `null`, but for those that the profile leaves out
abbrev pub is_first_group : List ℕ → Bool
is_first_group us = is_word (codes "abstract") us || is_word (codes "boolean") us || is_word (codes "break") us || is_word (codes "case") us || is_word (codes "catch") us || is_word (codes "char") us || is_word (codes "class") us

abbrev pub is_second_group : List ℕ → Bool
is_second_group us = is_word (codes "continue") us || is_word (codes "default") us || is_word (codes "do") us || is_word (codes "else") us || is_word (codes "extends") us || is_word (codes "false") us || is_word (codes "final") us

abbrev pub is_third_group : List ℕ → Bool
is_third_group us = is_word (codes "finally") us || is_word (codes "for") us || is_word (codes "if") us || is_word (codes "implements") us || is_word (codes "import") us || is_word (codes "instanceof") us || is_word (codes "int") us

abbrev pub is_fourth_group : List ℕ → Bool
is_fourth_group us = is_word (codes "interface") us || is_word (codes "long") us || is_word (codes "new") us || is_word (codes "null") us || is_word (codes "private") us || is_word (codes "protected") us || is_word (codes "public") us

abbrev pub is_fifth_group : List ℕ → Bool
is_fifth_group us = is_word (codes "return") us || is_word (codes "static") us || is_word (codes "super") us || is_word (codes "switch") us || is_word (codes "synchronized") us || is_word (codes "this") us || is_word (codes "throw") us

abbrev pub is_sixth_group : List ℕ → Bool
is_sixth_group us = is_word (codes "throws") us || is_word (codes "true") us || is_word (codes "try") us || is_word (codes "void") us || is_word (codes "volatile") us || is_word (codes "while") us

abbrev pub is_keyword : List ℕ → Bool
is_keyword us = is_first_group us || is_second_group us || is_third_group us || is_fourth_group us || is_fifth_group us || is_sixth_group us

-- the keywords that the profile leaves out
abbrev pub is_left_out_first : List ℕ → Bool
is_left_out_first us = is_word (codes "assert") us || is_word (codes "byte") us || is_word (codes "const") us || is_word (codes "double") us || is_word (codes "enum") us || is_word (codes "float") us

abbrev pub is_left_out_second : List ℕ → Bool
is_left_out_second us = is_word (codes "goto") us || is_word (codes "native") us || is_word (codes "package") us || is_word (codes "short") us || is_word (codes "strictfp") us || is_word (codes "transient") us

abbrev pub is_left_out : List ℕ → Bool
is_left_out us = is_left_out_first us || is_left_out_second us

-- a word of n units: a keyword, or else an identifier
abbrev pub word_element : ℕ → List ℕ → Element
word_element n word = if is_left_out word then Fault Profile else (if is_keyword word then Token Keyword n else Token Word n)
