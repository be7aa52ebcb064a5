-- Units that no `with` may name (ISO/IEC 8652:2012, D.13, D.7). Which they are beyond the profile's is our own choice.
use Rattle.std.specs.Prelude.{ℕ, Bool, false, codes, ◌||◌, ◌&&◌, List, [], ◌∷◌}
use Rattle.rv_text.specs.Names.{is_same_name}
use Rattle.rv_tree.specs.Names.{Identifier, Name}

-- the names begin with this one
unfoldable pub begins : List Identifier → List ℕ → Bool
begins [] word = false
begins (i ∷ more) word = is_same_name i.text word

-- the names begin with these two
unfoldable pub begins_with : List Identifier → List ℕ → List ℕ → Bool
begins_with [] word next = false
begins_with (i ∷ more) word next = is_same_name i.text word && begins more next

-- the names behind `Ada.` are those of a unit of Ada.Execution_Time in the list, or of one below it
unfoldable pub is_of_execution_time : List Identifier → Bool
is_of_execution_time names =
    begins_with names (codes "Execution_Time") (codes "Group_Budgets")
    || begins_with names (codes "Execution_Time") (codes "Timers")

-- the names behind `Ada.` are those of a unit of the list, or of one below it
unfoldable pub is_of_ada : List Identifier → Bool
is_of_ada names =
    begins names (codes "Asynchronous_Task_Control") || begins names (codes "Calendar")
    || begins names (codes "Synchronous_Barriers") || begins names (codes "Task_Attributes")
    || is_of_execution_time names

-- a unit of the list, or one below it
abbrev pub is_excluded : Name → Bool
is_excluded n =
    (is_same_name n.first.text (codes "Ada") && is_of_ada n.more)
    || (is_same_name n.first.text (codes "System") && begins_with n.more (codes "Multiprocessors") (codes "Dispatching_Domains"))

-- the one name behind `Ada.`
abbrev pub is_only : List Identifier → List ℕ → Bool
is_only [] word = false
is_only (i ∷ []) word = is_same_name i.text word
is_only (i ∷ j ∷ more) word = false

-- Ada.Dynamic_Priorities (D.5.1)
abbrev pub is_dynamic_priorities : Name → Bool
is_dynamic_priorities n = is_same_name n.first.text (codes "Ada") && is_only n.more (codes "Dynamic_Priorities")
