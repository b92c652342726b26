pub mod OneWay
pub mod ParentLaws
pub mod PutLaws
pub mod ReadingLaws
pub mod ResultLaws
pub mod TableLaws
