-- Which unit a text is over the loaded units, and why it is none (own). What is looked at first is told first: words, grammar,
-- restrictions, names, types, shape.
use Rattle.std.specs.Prelude.{◌≡◌, ◌⊎◌, ℕ, true, List, Some, None, Err}
use Rattle.rv_shape.specs.Shape.{Shape}
use Rattle.rv_shape.specs.Fits as fitting
use Rattle.rv_tree.specs.Units.{UnitTree}
use Rattle.rv_tree.specs.Derives.{Derives}
use Rattle.rv_grammar.specs.Words.{ReadsTree}
use Rattle.rv_parse.specs.Texts.{OfWords, OfDepth}
use Rattle.rv_grammar.specs.declared.fault.ParseFault.{ParseFault}
use Rattle.rv_grammar.specs.declared.fault.ParseFault.TheVariants as Parses
use Rattle.rv_restrict.specs.Conforms.{Conforms, IsFirst, violations}
use Rattle.rv_scope.specs.Bound.{AllBound, uses}
use Rattle.rv_distinct.specs.Regions.{names_are_distinct}
use Rattle.rv_distinct.specs.BodyNames.{has_one_body_each}
use Rattle.rv_conform.specs.Conforms.{bodies_conform}
use Rattle.rv_names.specs.Completed.{unit_is_completed, operations_are_completed}
use Rattle.rv_names.specs.EndNames.{unit_ends}
use Rattle.rv_names.specs.Jumps.{unit_is_placed}
use Rattle.rv_outline.specs.Shapes.{shape_of}
use Rattle.rv_code.specs.Bodies.{UnitBodies}
use Rattle.rv_types.specs.BodiesOf.{bodies_of}
use Rattle.rv_names.specs.declared.fault.NameFault.TheVariants as name
use Rattle.rv_static.specs.declared.fault.TypeFault.TheVariants as type
use Rattle.rv_unit.specs.declared.fault.UnitFault.{UnitFault}
use Rattle.rv_unit.specs.declared.fault.UnitFault.TheVariants.{Lex, Parse, Restriction, Names, Types, Shape as Fits, NoMemory}

-- a tree conforms to the profile (D.13), and its names are as they have to be
pub record IsBound (shapes : List Shape) (tree : UnitTree) : Type 0 where
  pub conforms : Conforms tree
  -- each name is bound to the one declaration that is visible (8.3)
  pub bound : AllBound (uses shapes tree)
  -- each protected unit and each task of the package has a body (3.11.1)
  pub completed : unit_is_completed tree ≡ true
  -- each operation of a protected unit has a body (9.4)
  pub operations : operations_are_completed tree ≡ true
  -- each body of an operation conforms to a declaration of its protected unit (6.3.1)
  pub profiles : bodies_conform shapes tree ≡ true
  -- each name after an `end` is the opening one
  pub ends : unit_ends tree ≡ true
  -- each `exit` stands in a loop, and each `raise` without a name in a handler (5.7, 11.3)
  pub placed : unit_is_placed tree ≡ true
  -- no region declares a name twice (8.3)
  pub distinct : names_are_distinct tree ≡ true
  -- no protected unit, no task and no operation has two bodies (3.11.1)
  pub one_body : has_one_body_each tree ≡ true

-- and its declarations give this shape
pub record HasShape (shapes : List Shape) (tree : UnitTree) (shape : Shape) : Type 0 where
  pub bound : IsBound shapes tree
  pub declared : shape_of shapes tree ≡ Some shape

-- a tree gives a unit of this shape, which fits those that are loaded
pub record GivesUnit (shapes : List Shape) (tree : UnitTree) (shape : Shape) : Type 0 where
  pub has : HasShape shapes tree shape
  pub fits : fitting.fault shapes shape ≡ None

-- a text is a unit of this shape
pub record IsUnit (shapes : List Shape) (text : List ℕ) (shape : Shape) : Type 0 where
  pub tree : UnitTree
  pub derives : Derives text tree
  pub gives : GivesUnit shapes tree shape

-- a text is a unit of this shape, and its bodies are compiled to this code
pub record IsCompiled (shapes : List Shape) (text : List ℕ) (shape : Shape) (code : UnitBodies) : Type 0 where
  pub tree : UnitTree
  pub derives : Derives text tree
  pub gives : GivesUnit shapes tree shape
  pub bodies : bodies_of shapes tree ≡ Some code

-- a fault of the grammar
abbrev pub IsOfGrammar : ParseFault → Type 0
IsOfGrammar (Parses.Unexpected at) = Unit {0}
IsOfGrammar (Parses.TooDeep at) = Unit {0}
IsOfGrammar (Parses.Lex told) = ⊥
IsOfGrammar Parses.NoMemory = ⊥

-- a text has words, and derives no tree, or nests too deep
pub record HasNoTree (text : List ℕ) (told : ParseFault) : Type 0 where
  pub of_grammar : IsOfGrammar told
  pub no_tree : (tree : UnitTree) → Derives text tree → ReadsTree tree (Err told)
  pub words : OfWords text (Err told)
  pub deep : OfDepth text (Err told)

-- this is why a text isn't read
abbrev pub IsOfText : List ℕ → UnitFault → Type 0
IsOfText text (Lex told) = OfWords text (Err (Parses.Lex told))
IsOfText text (Parse told) = HasNoTree text told
IsOfText text NoMemory = Unit {0}
IsOfText text other = ⊥

-- this is why a tree gives no unit, and it is no want of memory; which fault of names or of types it is, and its place,
-- isn't said here. A fault of the shape stands against a text whose bodies are compiled
abbrev pub IsOfTree : List Shape → UnitTree → UnitFault → Type 0
IsOfTree shapes tree (Restriction violation) = IsFirst violation (violations tree)
IsOfTree shapes tree (Names told) = Conforms tree × (told ≡ name.NoMemory → ⊥)
IsOfTree shapes tree (Types told) = IsBound shapes tree × (told ≡ type.NoMemory → ⊥)
IsOfTree shapes tree (Fits told) = (shape : Shape) × HasShape shapes tree shape × (code : UnitBodies) × (bodies_of shapes tree ≡ Some code) × (fitting.fault shapes shape ≡ Some told)
IsOfTree shapes tree NoMemory = Unit {0}
IsOfTree shapes tree other = ⊥

-- this is why a text is no unit: it isn't read, or its tree gives none
abbrev pub IsRefused : List Shape → List ℕ → UnitFault → Type 0
IsRefused shapes text fault = IsOfText text fault ⊎ ((tree : UnitTree) × Derives text tree × IsOfTree shapes tree fault)
