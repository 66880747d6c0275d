-- Where the names under a prefix lie in the order of names.
use Rattle.std.specs.declared.ops.Bound.{Bound}
use Rattle.std.specs.declared.ops.Bound.TheVariants.{Included, Excluded, Unbounded}
use Rattle.ts_base.specs.declared.keys.Key.{Key}
use Rattle.ts_base.specs.declared.keys.FragKey.{FragKey}
use Rattle.ts_base.specs.declared.names.Part.TheVariants as part
use Rattle.ts_base.specs.declared.names.CommitKind.TheVariants as kind
use Rattle.ts_base.specs.declared.names.LeaseMode.TheVariants as mode
use Rattle.ts_base.specs.declared.names.Name.{Name}
use Rattle.ts_base.specs.declared.names.Name.TheVariants as name
use Rattle.ts_base.specs.declared.names.Prefix.{Prefix}
use Rattle.ts_base.specs.declared.names.Prefix.TheVariants as prefix

-- the least key
abbrev pub least_key : Key
least_key = record { t = 0; id = 0 }

-- the least key of a fragment
abbrev pub least_frag : FragKey
least_frag = record { t1 = 0; t2 = 0; id = 0; v = 0 }

-- where the names under a prefix start
abbrev pub start_of : Prefix → Bound Name
start_of prefix.Schemas = Included (name.Schema least_key)
start_of prefix.Commits = Included (name.Commit least_frag kind.Wrt)
start_of prefix.Leases = Included (name.Lease least_key mode.Shr)
start_of (prefix.Fragment f) = Included (name.Part f part.Meta)

-- where they end
abbrev pub end_of : Prefix → Bound Name
end_of prefix.Schemas = Excluded (name.Commit least_frag kind.Wrt)
end_of prefix.Commits = Excluded (name.Part least_frag part.Meta)
end_of prefix.Leases = Unbounded
end_of (prefix.Fragment f) = Included (name.Part f part.Plain)
