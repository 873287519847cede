-- Lent memory that a list fills from its front.
use Rattle.std.proofs.Common.{◌≡◌, ℕ, ◌<◌, min, Bool, false, leb, List, [], ◌∷◌, ◌++◌, length, drop, refl, sym, ap, ◌∙◌}
use Rattle.std.proofs.lemmas.List.{drop-drop, length_push, take-append-drop}
use Rattle.std.proofs.lemmas.Bool.{leb-false}
use Rattle.lists.specs.declared.lent.LentList.{LentList}
use Rattle.lists.specs.Lists.{memory_of, values_of, spare_of, room, Lent}

-- the values stand at the front of memory that the list `first` was made over, and behind them what was there before
pub record Stands {A : Type 0} (before : List A) (most : ℕ) (first list : LentList A) (values : List A) : Type 0 where
  pub values_are : values_of list ≡ values
  pub left : spare_of list ≡ drop (length values) before
  pub room_is : room list ≡ min (length before) most
  pub lent : Lent first list

-- whether there is no room for another one
abbrev pub full : {A : Type 0} → LentList A → Bool
full list = leb (room list) (length (values_of list))

module _ {A : Type 0} {before : List A} {most : ℕ} where
  pub none_yet : (first : LentList A) → values_of first ≡ [] → memory_of first ≡ before → first.most ≡ most → Stands before most first first []
  none_yet first none same is = record {
    values_are = none;
    left = ap (λ vs. vs ++ spare_of first) (sym none) ∙ take-append-drop first.count (memory_of first) ∙ same;
    room_is = rw (same, is) refl;
    lent = record { memory = refl; length = refl; most = refl };
  }

  module _ {first list : LentList A} {values : List A} (stands : Stands before most first list values) where
    -- one more value behind the others
    pub one_more : (x : A) (after : LentList A) → values_of after ≡ values_of list ++ x ∷ [] → spare_of after ≡ drop 1 (spare_of list) → Lent list after →
        Stands before most first after (values ++ x ∷ [])
    one_more x after more less same = record {
      values_are = more ∙ ap (λ vs. vs ++ x ∷ []) stands.values_are;
      left = less ∙ ap (drop 1) stands.left ∙ drop-drop 1 (length values) before ∙ ap (λ n. drop n before) (sym (length_push values x));
      room_is = rw (same.length, same.most) stands.room_is;
      lent = record {
        memory = same.memory ∙ stands.lent.memory;
        length = same.length ∙ stands.lent.length;
        most = same.most ∙ stands.lent.most;
      };
    }

    pub count_is : length (values_of list) ≡ length values
    count_is = ap length stands.values_are

    -- it is full where there is no room for one more value
    pub full_is : full list ≡ leb (min (length before) most) (length values)
    full_is = ap (λ m. leb m (length (values_of list))) stands.room_is ∙ ap (leb (min (length before) most)) count_is

    pub space : full list ≡ false → length values < min (length before) most
    space free = leb-false (min (length before) most) (length values) (sym full_is ∙ free)

    -- all of the memory
    pub memory_is : memory_of list ≡ values ++ drop (length values) before
    memory_is = sym (take-append-drop list.count (memory_of list)) ∙ ap (λ vs. vs ++ spare_of list) stands.values_are ∙ ap (λ vs. values ++ vs) stands.left
