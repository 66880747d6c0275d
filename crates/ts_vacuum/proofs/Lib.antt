mod RemovalLaws
mod RemovedLaws
