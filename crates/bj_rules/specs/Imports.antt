-- What an import may name.
use Rattle.std.specs.Prelude.{ℕ, Bool, true, false, ◌&&◌, List, [], ◌∷◌}
use Rattle.std.specs.List.{list_any}
use Rattle.std.specs.Str.{bytes_eq}
use lib.Chars.{codes}
use Rattle.bj_expr_tree.specs.declared.types.NamedPlace.{NamedPlace}
use Rattle.bj_rules.specs.Words.{is_one_of}

-- ---- what there is to import

abbrev pub lang_classes : List (List ℕ)
lang_classes = codes "Object" ∷ codes "String" ∷ codes "StringBuilder" ∷ codes "Math" ∷ codes "Integer" ∷ codes "Long" ∷ codes "Runnable" ∷ codes "Thread" ∷ codes "System"
    ∷ codes "Throwable" ∷ codes "Exception" ∷ codes "RuntimeException" ∷ codes "Error" ∷ codes "InterruptedException" ∷ codes "ArithmeticException" ∷ codes "NullPointerException"
    ∷ codes "ClassCastException" ∷ codes "ArrayStoreException" ∷ codes "NegativeArraySizeException" ∷ codes "IndexOutOfBoundsException" ∷ codes "IllegalArgumentException"
    ∷ codes "IllegalStateException" ∷ codes "IllegalMonitorStateException" ∷ codes "UnsupportedOperationException" ∷ codes "ArrayIndexOutOfBoundsException"
    ∷ codes "StringIndexOutOfBoundsException" ∷ codes "NumberFormatException" ∷ codes "IllegalThreadStateException" ∷ codes "AssertionError" ∷ codes "VirtualMachineError"
    ∷ codes "LinkageError" ∷ codes "OutOfMemoryError" ∷ codes "StackOverflowError" ∷ codes "ExceptionInInitializerError" ∷ codes "NoClassDefFoundError" ∷ []

abbrev pub util_classes : List (List ℕ)
util_classes = codes "Scanner" ∷ codes "NoSuchElementException" ∷ []

abbrev pub io_classes : List (List ℕ)
io_classes = codes "PrintStream" ∷ codes "InputStream" ∷ []

abbrev pub junit_classes : List (List ℕ)
junit_classes = codes "Assert" ∷ codes "Test" ∷ codes "Before" ∷ codes "After" ∷ []

-- the methods of org.junit.Assert
abbrev pub assert_methods : List (List ℕ)
assert_methods = codes "assertEquals" ∷ codes "assertTrue" ∷ codes "assertFalse" ∷ codes "assertNull" ∷ codes "assertNotNull" ∷ codes "assertSame" ∷ codes "assertNotSame" ∷ codes "fail" ∷ []

-- a package: the two identifiers of its name, and its classes
pub record Package : Type 0 where
  pub whole : List ℕ
  pub part : List ℕ
  pub classes : List (List ℕ)

abbrev pub packages : List Package
packages = record { whole = codes "java"; part = codes "lang"; classes = lang_classes }
    ∷ record { whole = codes "java"; part = codes "util"; classes = util_classes }
    ∷ record { whole = codes "java"; part = codes "io"; classes = io_classes }
    ∷ record { whole = codes "org"; part = codes "junit"; classes = junit_classes }
    ∷ []

-- ---- which imports there are

-- whether identifiers are the name of a package
abbrev pub is_called : List ℕ → List ℕ → Package → Bool
is_called whole part group = bytes_eq whole group.whole && bytes_eq part group.part

abbrev pub is_package : List ℕ → List ℕ → Bool
is_package whole part = list_any (is_called whole part) packages

abbrev pub is_class : List ℕ → List ℕ → List ℕ → Bool
is_class whole part class = list_any (λ (group : Package). is_called whole part group && is_one_of group.classes class) packages

-- org.junit.Assert
abbrev pub is_assert : List ℕ → List ℕ → List ℕ → Bool
is_assert whole part class = bytes_eq whole (codes "org") && (bytes_eq part (codes "junit") && bytes_eq class (codes "Assert"))

-- import java.util.Scanner; [JLS 7.5.1]
abbrev pub names_class : List NamedPlace → Bool
names_class (whole ∷ part ∷ class ∷ []) = is_class whole.name part.name class.name
names_class names = false

-- import java.util.*; [JLS 7.5.2]
abbrev pub names_package : List NamedPlace → Bool
names_package (whole ∷ part ∷ []) = is_package whole.name part.name
names_package names = false

-- import static org.junit.Assert.fail; [JLS 7.5.3]
abbrev pub names_method : List NamedPlace → Bool
names_method (whole ∷ part ∷ class ∷ method ∷ []) = is_assert whole.name part.name class.name && is_one_of assert_methods method.name
names_method names = false

-- import static org.junit.Assert.*; [JLS 7.5.4]
abbrev pub names_assert : List NamedPlace → Bool
names_assert (whole ∷ part ∷ class ∷ []) = is_assert whole.name part.name class.name
names_assert names = false

-- whether there is what these names import, static or not, and on demand or not
abbrev pub is_known : Bool → Bool → List NamedPlace → Bool
is_known false false names = names_class names
is_known false true names = names_package names
is_known true false names = names_method names
is_known true true names = names_assert names
