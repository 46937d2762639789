mod CopyLemmas
pub mod ConditionLemmas
pub mod ItemLemmas
pub mod NameLemmas
pub mod PlanLemmas
pub mod RoomLemmas
pub mod ValueLemmas
