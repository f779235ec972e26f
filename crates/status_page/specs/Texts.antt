-- The texts in which a server tells of itself (own), its metrics in Prometheus' text format (version 0.0.4).
use Rattle.std.specs.Prelude.{Bool, true, false, ℕ, List, [], ◌∷◌, ◌++◌, codes, decimal}
use Rattle.std.specs.List.{flat_map}
use Rattle.status_page.specs.declared.count.Count.{Count}
use Rattle.status_page.specs.declared.node_count.NodeCount.{NodeCount}
use Rattle.status_page.specs.declared.status.Status.{Status}
use Rattle.status_page.specs.declared.status.NodeStatus.{NodeStatus}
use Rattle.status_page.specs.Counts.{all_counts, all_nodes, count_help, count_name, count_rises, count_value, node_help, node_name, node_rises, node_value}

-- ---- metrics: two lines of each, HELP and TYPE, and behind them one for each number

-- how the name of a metric ends that only rises
abbrev pub ending : Bool → List ℕ
ending true = codes "_total"
ending false = []

abbrev pub kind : Bool → List ℕ
kind true = codes " counter\n"
kind false = codes " gauge\n"

-- the whole name of a metric, with what stands before the name of those of its kind
unfoldable pub metric : List ℕ → List ℕ → Bool → List ℕ
metric first name rises = codes "tomveul_" ++ first ++ name ++ ending rises

abbrev pub count_metric : Count → List ℕ
count_metric count = metric [] (count_name count) (count_rises count)

abbrev pub node_metric : NodeCount → List ℕ
node_metric count = metric (codes "node_") (node_name count) (node_rises count)

unfoldable pub metric_head : List ℕ → List ℕ → Bool → List ℕ
metric_head name help rises = codes "# HELP " ++ name ++ codes " " ++ help ++ codes "\n# TYPE " ++ name ++ kind rises

unfoldable pub count_lines : Status → Count → List ℕ
count_lines status count =
    metric_head (count_metric count) (count_help count) (count_rises count)
    ++ count_metric count ++ (codes " " ++ decimal (count_value status count) ++ codes "\n")

-- the label that says of which node a number is
unfoldable pub node_label : NodeStatus → List ℕ
node_label node = codes "{node=\"" ++ decimal node.number ++ codes "\"}"

-- a number behind it
unfoldable pub labelled : NodeStatus → ℕ → List ℕ
labelled node number = node_label node ++ (codes " " ++ decimal number ++ codes "\n")

unfoldable pub node_line : NodeCount → NodeStatus → List ℕ
node_line count node = node_metric count ++ labelled node (node_value node count)

unfoldable pub node_lines : List NodeStatus → NodeCount → List ℕ
node_lines nodes count = metric_head (node_metric count) (node_help count) (node_rises count) ++ flat_map (node_line count) nodes

abbrev pub metrics_text : Status → List ℕ
metrics_text status = flat_map (count_lines status) all_counts ++ flat_map (node_lines status.nodes.items) all_nodes

-- ---- JSON: an object of numbers, and in it one for each node

unfoldable pub member : List ℕ → ℕ → List ℕ
member name number = codes ",\"" ++ name ++ codes "\":" ++ decimal number

unfoldable pub node_object : NodeStatus → List ℕ
node_object node =
    codes "{\"node\":" ++ decimal node.number ++ flat_map (λ count. member (node_name count) (node_value node count)) all_nodes ++ codes "}"

-- with commas between them
abbrev pub node_objects : List NodeStatus → List ℕ
node_objects [] = []
node_objects (first ∷ others) = node_object first ++ flat_map (λ node. codes "," ++ node_object node) others

abbrev pub json_text : Status → List ℕ
json_text status =
    codes "{\"program\":\"Tomveul\"" ++ flat_map (λ count. member (count_name count) (count_value status count)) all_counts
    ++ codes ",\"nodes\":[" ++ node_objects status.nodes.items ++ codes "]}\n"

-- ---- a page of HTML: a table of the server, and one of its nodes, which a browser asks for again each five seconds

unfoldable pub page_head : List ℕ
page_head =
    codes "<!DOCTYPE html>\n<html lang=\"en\"><head><meta charset=\"utf-8\"><meta http-equiv=\"refresh\" content=\"5\"><title>Tomveul</title></head>\n<body><h1>Tomveul</h1>\n<table border=\"1\">\n"

unfoldable pub cell : ℕ → List ℕ
cell number = codes "<td align=\"right\">" ++ decimal number ++ codes "</td>"

unfoldable pub row_begin : List ℕ → List ℕ
row_begin help = codes "<tr><th align=\"left\">" ++ help ++ codes "</th>"

abbrev pub row : List ℕ → List ℕ → List ℕ
row help cells = row_begin help ++ cells ++ codes "</tr>\n"

unfoldable pub count_row : Status → Count → List ℕ
count_row status count = row (count_help count) (cell (count_value status count))

unfoldable pub node_row : List NodeStatus → NodeCount → List ℕ
node_row nodes count = row (node_help count) (flat_map (λ node. cell (node_value node count)) nodes)

unfoldable pub node_rows : List NodeStatus → List ℕ
node_rows nodes = row (codes "Node") (flat_map (λ node. cell node.number) nodes) ++ flat_map (node_row nodes) all_nodes

unfoldable pub page_middle : List ℕ
page_middle = codes "</table><br>\n<table border=\"1\">\n"

unfoldable pub page_end : List ℕ
page_end = codes "</table></body></html>\n"

abbrev pub page_text : Status → List ℕ
page_text status = page_head ++ flat_map (count_row status) all_counts ++ page_middle ++ node_rows status.nodes.items ++ page_end
