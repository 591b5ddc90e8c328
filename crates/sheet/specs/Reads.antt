-- What reading a sheet answers.
use Rattle.std.specs.Prelude.{◌≡◌, ℕ, List, ◌++◌, Ok, Err, Result}
use Rattle.plan.specs.Content.{Content, content}
use Rattle.plan.specs.declared.parts.Closure.{Closure}
use Rattle.plan.specs.declared.parts.Segment.{Segment}
use Rattle.plan.specs.declared.refusals.PlanError.{PlanError}
use Rattle.plan.specs.declared.refusals.PlanError.TheVariants as error
use Rattle.plan.specs.declared.road_plan.Plan.{Plan}
use Rattle.sheet.specs.Format.{decode, encode}
use Rattle.sheet.specs.Verdict.{accepted, refused, verdict}

abbrev pub with_segments : Content → List Segment → Content
with_segments c gs = record { settings = c.settings; segments = c.segments ++ gs; closures = c.closures }

abbrev pub with_closures : Content → List Closure → Content
with_closures c ks = record { settings = c.settings; segments = c.segments; closures = c.closures ++ ks }

-- the plan that the sheet means, whose sheet it is; or its fault; or want of memory, for a sheet that is accepted
abbrev pub Reads : List ℕ → Result Plan PlanError → Type 0
Reads bytes (Ok p) = (verdict bytes ≡ accepted (content p)) × (encode (content p) ≡ bytes)
Reads bytes (Err (error.Refused f)) = verdict bytes ≡ refused f
Reads bytes (Err error.NoMemory) = verdict bytes ≡ accepted (decode bytes)
