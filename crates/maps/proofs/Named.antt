-- With expected maps too: a row that takes no name ignores the one that it is sent; a row that takes one answers 1 where it is no name.
use Prim.Native.Nat.{ℕ}
use mathlib.Core.Path.{◌≡◌, refl}
use mathlib.Core.Bool.{true, false}
use mathlib.Core.List.{List}
use Rattle.lists.specs.Lists.{any}
use Rattle.lists.proofs.Bools.{or_r, cond_ind}
use Rattle.records.specs.Names.{is_name}
use Rattle.rules.specs.Seen.{Input, see}
use Rattle.rules.specs.Row.{unless}
use Rattle.rules.specs.Named.{takes_name, name_missing, called}
use Rattle.rules.proofs.Named.{other_number, name_ignored, gives_one, one_is_lowest, no_name_refused}
use Rattle.maps.specs.Expected.{carries}
use Rattle.maps.specs.State.{Mapped, MappedTool, state_of}
use Rattle.maps.specs.Rows.{codes_in, row_of}
use Rattle.maps.specs.Outcome.{row_in, answer_in, state_after, refused, given_in}
use Rattle.maps.proofs.Amended.{grounds_are}

module _ (i : Input) where
  pub row_ignores : (s : Mapped) (name : List ℕ) → takes_name i.number ≡ false → row_in s (called name i) ≡ row_in s i
  unfolding row_of takes_name
  row_ignores s name f =
      let other = other_number i.number in
      rw (other 1 f refl, other 3 f refl, other 20 f refl) (name_ignored i.number s.base i name f)

  pub given_ignores : (t : MappedTool) (name : List ℕ) → takes_name i.number ≡ false → given_in t (called name i) ≡ given_in t i
  unfolding given_in answer_in state_after
  given_ignores t name f = rw (row_ignores (state_of t) name f)

  module _ (h : is_name i.name ≡ false) (t : takes_name i.number ≡ true) (m : name_missing i ≡ false) where
    pub answers_one : (s : Mapped) → answer_in s i ≡ 1
    unfolding answer_in see name_missing any
    answers_one s =
        let x = see s.base i in
        let b = no_name_refused x h i.number t m in
        one_is_lowest (row_in s i).grounds (rw (grounds_are i.number x (codes_in s i))
        (cond_ind (λ gs. any gives_one gs ≡ true) (carries i.number) (λ _. or_r (gives_one (unless (codes_in s i).fine 1)) b)
        (λ _. b)))

    pub turned_away : (t : MappedTool) → given_in t i ≡ refused t 1
    unfolding given_in
    turned_away t = rw (answers_one (state_of t))
