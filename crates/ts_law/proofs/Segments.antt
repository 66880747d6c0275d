-- A job that makes the calls which its automaton asks goes along its course, and ends by it.
use Rattle.std.proofs.Common.{List}
use Rattle.ts_model.specs.declared.commands.Job.{Job}
use Rattle.ts_model.specs.declared.answers.Driven.{Driven}
use Rattle.ts_model.specs.declared.answers.Outcome.{Outcome}
use Rattle.ts_model.specs.Codecs.{Codec, AsksLooks}
use Rattle.ts_model.specs.States.{Exchange}
use Rattle.ts_model.specs.Driven.{ComesOut, IsDriven}
use Rattle.ts_model.specs.Told.{Told, trace_of}
use Rattle.ts_law.specs.Runs.{AreDriven, AreSegments}
use Rattle.ts_law.specs.Courses.{Found, AreFound, MayComeOut, IsSegment}
use Rattle.ts_law.proofs.CourseBacked.{AreBacked}
use Rattle.ts_law.proofs.CourseJobs.{begun_cut, begun_finds}
use Rattle.ts_model.specs.declared.answers.Driven.TheVariants as driven

module _ {F : Type 0} (codec : Codec F) (looks : AsksLooks codec) (job : Job) (trace : List Exchange) where
  -- a job that made the calls which it asks has the calls of its course, with its end or its stop
  pub segment_of : (result : Driven Outcome) → IsDriven codec job trace result → IsSegment codec job trace result
  segment_of result h =
      let (found, told, backed, ends) = comes_out result h.ends in
      record { uncut = h.uncut; found = found; are_found = told; merges_found = backed.0; sweeps_found = backed.1; ends = ends }
    where
      comes_out : (r : Driven Outcome) → ComesOut codec job trace r → (found : Found) × AreFound job found trace × AreBacked codec job found trace × MayComeOut codec job found trace r
      comes_out (driven.Done end) ends = begun_finds codec job looks job.command trace end h.asked ends
      comes_out driven.Stopped (c, asks_it, cut) = begun_cut codec job looks job.command trace c h.asked asks_it cut

-- so have all jobs
pub segments_of : {F : Type 0} (codec : Codec F) → AsksLooks codec → (jobs : List Job) (results : List (Driven Outcome)) (told : List Told)
    → AreDriven codec jobs results told → AreSegments codec jobs results told
segments_of codec looks jobs results told all = λ number job result at result_at. segment_of codec looks job (trace_of number told) result (all.driven number job result at result_at)
