-- What was read is what is spelled, by the laws of schemas.
use Rattle.std.proofs.Common.{◌<◌, ◌^◌, length, arith, rules}
use Rattle.ts_wire.specs.declared.kinds.Kind.TheVariants as kind
use Rattle.ts_wire.proofs.Objects.{decoded_found, decoded_only, decoded_cut}
use Rattle.ts_schema.specs.SchemaTexts.{schema_of, schema_object}
use Rattle.ts_schema.proofs.SchemaLaws.{attrs_exact}
use Rattle.ts_schema.proofs.FirstAttr.{breaks_there}
use Rattle.ts_schema.proofs.schemas.Schema.decode.Goals as goal

pub returns-clause-found : goal.returns-clause-found
unfolding schema_of schema_object
returns-clause-found c = decoded_found attrs_exact (λ schema. schema.attrs) kind.Schema _ _ (λ i. omega (arith, c.type_inv.object i)) c.schema_under.ensures.exact

pub returns-clause-only : goal.returns-clause-only
unfolding schema_of schema_object
returns-clause-only c attrs are same =
    let few : length c.args.object.now < 2 ^ 64 = search rules in
    decoded_only attrs_exact (λ schema. schema.attrs) kind.Schema _ _ few c.schema_under.ensures.exact attrs are same

pub returns-clause-cut : goal.returns-clause-cut
unfolding schema_of schema_object
returns-clause-cut c attrs few cut = decoded_cut attrs_exact (λ schema. schema.attrs) kind.Schema _ _ c.schema_under.ensures.exact attrs few cut

pub returns-clause-first : goal.returns-clause-first
returns-clause-first c = breaks_there (λ schema. schema.attrs) _ _ (λ i. omega (arith, c.type_inv.object i)) c.schema_under.ensures.exact
