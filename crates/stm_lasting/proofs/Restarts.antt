-- What an opening serves.
use Rattle.std.proofs.Common.{◌≡◌, ◌⊎◌, inl, inr, ⊎_elim, ℕ, List, sym, ◌∙◌, ap}
use Rattle.std.specs.Prelude.{Option, None, Some}
use Rattle.stm_world.specs.World.{World}
use Rattle.stm_frames.proofs.Unique.{opens_one}
use Rattle.stm_lasting.specs.Kept.{world_in}
use Rattle.stm_lasting.specs.Laws.{OpensToOne, ServesTheKept, OpensToTheSame}

some_is : (o : Option World) (v w : World) → o ≡ Some v → o ≡ Some w → v ≡ w
some_is o v w is are = ap in_it (sym is ∙ are)
  where
    in_it : Option World → World
    in_it None = v
    in_it (Some x) = x

pub to_one : OpensToOne
to_one file world other short a b =
    some_is (world_in b.records) world other (ap (λ (rs : List (List ℕ)). world_in rs) (sym (opens_one file a.records b.records short a.opens b.opens)) ∙ a.leads) b.leads

pub serves : ServesTheKept
serves file text c before after served short kept left chance opens =
    ⊎_elim (λ old. inl (to_one c served before short opens old)) (λ new. inr (to_one c served after short opens new)) (left before kept chance)

-- records that open alike lead to one world
pub worlds_alike : OpensToTheSame
worlds_alike file c world alike opens =
    record { head = alike.head opens.head; records = opens.records; opens = alike.same opens.records opens.opens; leads = opens.leads }
